-- The outputs, written one by one.
use Rattle.std.proofs.Common.{◌≡◌, ℕ, ◌+◌, ◌<◌, List, length, get_or, set, map, cond, Bool, true, false, refl, sym, ap, ◌∙◌, subst, arith, get_or-set_same, get_or-set_other, below_more}
use Rattle.std.specs.Prelude.{slice_index}
use Rattle.std.proofs.lemmas.List.{length-map, get_or-map, get_or_read, ext_get_or}
use Rattle.pdn_base.specs.Words.{xor_lists}
use Rattle.pdn_base.proofs.WordLists.{length-xor_lists, get_or-xor_lists}
use Rattle.pdn_circuit.specs.Gates.{Net}
use Rattle.pdn_gmw.specs.declared.half.Half.TheInside.{Inside}
use Rattle.pdn_gmw.specs.declared.stage.Stage.{Stage}
use Rattle.pdn_gmw.specs.declared.stage.Stage.TheVariants.{Over}
use Rattle.pdn_gmw.specs.Places.{state_of, AtStage, IsHalf}
use Rattle.pdn_gmw.specs.Halves.{HalfWords, half_walk}
use Rattle.pdn_dealer.specs.Sections.{mask_count}
use Rattle.pdn_gmw.specs.Known.{held, received}
use Rattle.pdn_gmw.specs.Steps.{covered, shares_out, frame_count}
use Rattle.pdn_gmw.proofs.Progress.{length-shares}
use Rattle.pdn_gmw.proofs.Layering.{no_deeper}

by_release : (released : Bool) (outs masks : List ℕ) (k : ℕ) → length masks ≡ cond released (length outs) 0 → get_or (cond released (xor_lists outs masks) outs) k 0 ≡ covered released masks k (get_or outs k 0)
by_release true outs masks k l = get_or-xor_lists outs masks l k
by_release false outs masks k l = refl

length-released : (released : Bool) (outs masks : List ℕ) → length masks ≡ cond released (length outs) 0 → length (cond released (xor_lists outs masks) outs) ≡ length outs
length-released true outs masks l = length-xor_lists outs masks l
length-released false outs masks l = refl

masks_long : (net : Net) (h : HalfWords) (shares : List ℕ) → length h.part.masks ≡ mask_count net → length h.part.masks ≡ cond net.released (length (map (λ o. slice_index shares o) net.outputs)) 0
masks_long net h shares f = f ∙ ap (λ n. cond net.released n 0) (sym (length-map net.outputs (λ o. slice_index shares o)))

pub share_out : (net : Net) (h : HalfWords) (shares : List ℕ) (k : ℕ) → length h.part.masks ≡ mask_count net → k < length net.outputs
    → get_or (shares_out net h shares) k 0 ≡ covered net.released h.part.masks k (slice_index shares (slice_index net.outputs k))
share_out net h shares k f l =
    by_release net.released (map (λ o. slice_index shares o) net.outputs) h.part.masks k (masks_long net h shares f)
    ∙ ap (covered net.released h.part.masks k) (get_or-map (λ o. slice_index shares o) net.outputs k 0 0 l)

pub length-shares_out : (net : Net) (h : HalfWords) (shares : List ℕ) → length h.part.masks ≡ mask_count net → length (shares_out net h shares) ≡ length net.outputs
length-shares_out net h shares f =
    length-released net.released (map (λ o. slice_index shares o) net.outputs) h.part.masks (masks_long net h shares f) ∙ length-map net.outputs (λ o. slice_index shares o)

pub put_out_more : (net : Net) (h : HalfWords) (shares outs : List ℕ) (k word : ℕ) → length h.part.masks ≡ mask_count net → k < length net.outputs → length outs ≡ length net.outputs
    → word ≡ covered net.released h.part.masks k (slice_index shares (slice_index net.outputs k))
    → ((j : ℕ) → j < k → get_or outs j 0 ≡ get_or (shares_out net h shares) j 0)
    → (j : ℕ) → j < k + 1 → get_or (set outs k word) j 0 ≡ get_or (shares_out net h shares) j 0
put_out_more net h shares outs k word f l long e before =
    below_more (λ (j : ℕ). get_or (set outs k word) j 0 ≡ get_or (shares_out net h shares) j 0) k
    (λ j b. get_or-set_other outs k j word 0 (λ x. absurd (omega arith)) ∙ before j b)
    (get_or-set_same outs k word 0 (omega arith) ∙ e ∙ sym (share_out net h shares k f l))

pub all_put_out : (net : Net) (h : HalfWords) (shares outs : List ℕ) → length h.part.masks ≡ mask_count net → length outs ≡ length net.outputs → ((j : ℕ) → j < length net.outputs → get_or outs j 0 ≡ get_or (shares_out net h shares) j 0) → outs ≡ shares_out net h shares
all_put_out net h shares outs f long e = ext_get_or 0 outs (shares_out net h shares) (long ∙ sym (length-shares_out net h shares f)) (λ j b. e j (omega arith))

-- as it is read in code
pub share_read : (net now : Net) (masks shares : List ℕ) (k at share word : ℕ) → net ≡ now → k < length now.outputs → at ≡ get_or net.outputs k at → at < length shares → share ≡ get_or shares at share
    → word ≡ covered net.released masks k share → word ≡ covered now.released masks k (slice_index shares (slice_index now.outputs k))
share_read net now masks shares k at share word e l p b q r =
    let place : at ≡ get_or now.outputs k 0 = get_or_read now.outputs k at l (p ∙ ap (λ (n : Net). get_or n.outputs k at) e) 0 in
    r ∙ ap (λ (n : Net). covered n.released masks k share) e
    ∙ ap (covered now.released masks k) (get_or_read shares at share b q 0 ∙ ap (λ n. get_or shares n 0) place)

-- a half at its end has all its shares
pub all_known : (h : Inside) → IsHalf h → h.stage ≡ Over → h.shares.items ≡ (half_walk (held h.holdings h.views.items) (map received h.views.items) h.schedule.gates).shares
all_known h keeps e =
    let end : h.taken ≡ frame_count h.schedule = subst (λ (t : Stage). AtStage (state_of h) h.frame.items t) e keeps.stage in
    let long = keeps.shares in
    ext_get_or 0 h.shares.items (half_walk (held h.holdings h.views.items) (map received h.views.items) h.schedule.gates).shares
    (long ∙ sym (length-shares (held h.holdings h.views.items) (map received h.views.items) h.schedule.gates))
    (λ j l. keeps.known j (omega arith) (omega (arith, no_deeper h.schedule j)))
