-- The gates that read no other: what a half reads at them, and what it makes of them.
use Rattle.std.proofs.Common.{◌≡◌, inl, inr, ℕ, zero, suc, ◌+◌, ◌<◌, ◌≤◌, Bool, true, false, List, [], ◌∷◌, ◌++◌, length, get_or, map, take, replicate, refl, sym, ap, ◌∙◌, subst, ⊎_elim, arith, append-nil}
use Rattle.std.specs.Prelude.{slice_index, slice_index_or}
use Rattle.std.specs.List.{fold, filter, flat_map, range_with_len, count_by}
use Rattle.std.proofs.lemmas.Bool.{false≢true, cases_Bool}
use Rattle.std.proofs.lemmas.List.{length-map, length-set, length-replicate, get_or-map, get_or_default, get_or-replicate, take_all, ext_get_or}
use Rattle.std.proofs.lemmas.List.Concat.{flat_map-append}
use Rattle.std.proofs.lemmas.List.Folds.{fold-map}
use Rattle.std.proofs.lemmas.List.FromFn.{length-map-range_with_len, get_or-map-range_with_len}
use Rattle.pdn_base.specs.declared.site.Site.{Site}
use Rattle.pdn_base.specs.declared.site.Site.TheVariants.{A, B}
use Rattle.pdn_circuit.specs.declared.gate.Gate.{Gate}
use Rattle.pdn_circuit.specs.declared.gate.Gate.TheVariants.{Input, Given, Const, Xor, And, Spread, Move}
use Rattle.pdn_circuit.specs.Gates.{Net, IsCircuit, is_input}
use Rattle.pdn_circuit.proofs.Reading.{counts_on}
use Rattle.pdn_dealer.specs.Sections.{r_count}
use Rattle.pdn_gmw.specs.Shares.{r_here, r_words}
use Rattle.pdn_gmw.specs.Layers.{Leaf, gate_at, is_leaf, leaf_of, is_leaf_at, leaves_to, leaves_of, leaf_here}
use Rattle.pdn_gmw.specs.Known.{HeldWords, HasLeaves, CanLeaf, LeavesThere, MasksThere, leaf_r, leaf_share, leaf_at, leaf_settled}
use Rattle.pdn_gmw.proofs.Progress.{can_leaf}
use Rattle.pdn_gmw.proofs.Hearing.{r_more}
use Rattle.pdn_gmw.proofs.Layering.{mapped_more}
use Rattle.pdn_gmw.proofs.Settling.{Good, all_written}
use Rattle.pdn_gmw.proofs.Stepping.{layer_within}

-- ---- one gate more
pub leaves_more : (gates : List Gate) (k inputs : ℕ) (g : Gate) (leaves : List Leaf) → g ≡ gate_at gates k → inputs ≡ count_by is_input (take k gates) → leaves ≡ leaves_to gates k
    → leaves ++ leaf_here k inputs g ≡ leaves_to gates (k + 1)
leaves_more gates k inputs g leaves eg ei el =
    ap (λ (ls : List Leaf). ls ++ leaf_here k inputs g) el
    ∙ ap (λ (i : ℕ). leaves_to gates k ++ leaf_here k i g) ei
    ∙ ap (λ (x : Gate). leaves_to gates k ++ leaf_here k (count_by is_input (take k gates)) x) eg
    ∙ sym (mapped_more (leaf_of gates) (is_leaf_at gates) k)

-- ---- what is read is there
leaf_read : (gates : List Gate) (P : Leaf → Type 0) (m : ℕ) (other : Leaf) → m < length (leaves_of gates) → ((k : ℕ) → k < length gates → P (leaf_of gates k)) → P (slice_index_or (leaves_of gates) m other)
leaf_read gates P m other l each =
    let ks : List ℕ = filter (is_leaf_at gates) (range_with_len 0 (length gates)) in
    let n : m < length ks = omega (arith, length-map ks (leaf_of gates)) in
    subst P (sym (get_or-map (leaf_of gates) ks m 0 other n)) (each (get_or ks m 0) (layer_within (is_leaf_at gates) (length gates) m 0 n))

pub leaves_there : (net : Net) (h : HeldWords) → IsCircuit net → HasLeaves net h → LeavesThere h (length net.gates) (leaves_of net.gates)
leaves_there net h is f m other l =
    leaf_read net.gates (λ (x : Leaf). (x.at < length net.gates) × CanLeaf h x.inputs x.gate) m other l
    (λ k b. (b, can_leaf net h k (count_by is_input (take k net.gates)) (Const 0) is f b refl))

pub masks_there : (net : Net) (r : List ℕ) → length r ≡ r_count net → MasksThere r (leaves_of net.gates)
masks_there net r e m other l =
    leaf_read net.gates (λ (x : Leaf). is_input x.gate ≡ true → x.inputs < length r) m other l
    (λ k b t. let c = counts_on is_input net.gates k (Const 0) b t in omega (arith, e, c))

-- ---- the words r
one_leaf : (site : Site) (r : List ℕ) (k inputs : ℕ) (g : Gate) → flat_map (leaf_r site r) (leaf_here k inputs g) ≡ r_here site g (slice_index r inputs)
one_leaf site r k inputs (Input from index) = append-nil (r_here site (Input from index) (slice_index r inputs))
one_leaf site r k inputs (Given index) = append-nil (r_here site (Given index) (slice_index r inputs))
one_leaf site r k inputs (Const word) = append-nil (r_here site (Const word) (slice_index r inputs))
one_leaf A r k inputs (Xor x y) = refl
one_leaf B r k inputs (Xor x y) = refl
one_leaf A r k inputs (And x y) = refl
one_leaf B r k inputs (And x y) = refl
one_leaf A r k inputs (Spread x lane) = refl
one_leaf B r k inputs (Spread x lane) = refl
one_leaf A r k inputs (Move x from count to) = refl
one_leaf B r k inputs (Move x from count to) = refl

words_to : (site : Site) (r : List ℕ) (gates : List Gate) (n : ℕ) → n ≤ length gates → flat_map (leaf_r site r) (leaves_to gates n) ≡ r_words site r 0 (take n gates)
words_to site r gates zero l = refl
words_to site r gates (suc n) l =
    let one : suc n ≡ n + 1 = omega arith in
    let here : n < length gates = omega arith in
    let g : Gate = gate_at gates n in
    let count : ℕ = count_by is_input (take n gates) in
    ap (λ (i : ℕ). flat_map (leaf_r site r) (leaves_to gates i)) one
    ∙ ap (flat_map (leaf_r site r)) (mapped_more (leaf_of gates) (is_leaf_at gates) n)
    ∙ flat_map-append (leaf_r site r) (leaves_to gates n) (leaf_here n count g)
    ∙ ap (λ (ws : List ℕ). ws ++ flat_map (leaf_r site r) (leaf_here n count g)) (words_to site r gates n (omega arith))
    ∙ ap (λ (ws : List ℕ). r_words site r 0 (take n gates) ++ ws) (one_leaf site r n count g)
    ∙ r_more site r gates n count g here (sym (get_or_default gates n g (Const 0) here)) refl
    ∙ ap (λ (i : ℕ). r_words site r 0 (take i gates)) (sym one)

pub leaf_words : (site : Site) (r : List ℕ) (gates : List Gate) → flat_map (leaf_r site r) (leaves_of gates) ≡ r_words site r 0 gates
leaf_words site r gates = words_to site r gates (length gates) (omega arith) ∙ ap (r_words site r 0) (take_all (length gates) gates (omega arith))

-- ---- the shares
not_leaf : (h : HeldWords) (inputs : ℕ) (g : Gate) → is_leaf g ≡ false → leaf_share h inputs g ≡ 0
not_leaf h inputs (Input site index) t = absurd (false≢true (sym t))
not_leaf h inputs (Given index) t = absurd (false≢true (sym t))
not_leaf h inputs (Const word) t = absurd (false≢true (sym t))
not_leaf h inputs (Xor x y) t = refl
not_leaf h inputs (And x y) t = refl
not_leaf h inputs (Spread x lane) t = refl
not_leaf h inputs (Move x from count to) t = refl

pub length-leaves_settled : (h : HeldWords) (shares : List ℕ) (leaves : List Leaf) → length (fold (leaf_settled h) shares leaves) ≡ length shares
length-leaves_settled h shares [] = refl
length-leaves_settled h shares (x ∷ leaves) = length-leaves_settled h (leaf_settled h shares x) leaves ∙ length-set shares x.at (leaf_share h x.inputs x.gate)

pub leaves_settled : (h : HeldWords) (gates : List Gate) → fold (leaf_settled h) (replicate (length gates) 0) (leaves_of gates) ≡ map (leaf_at h gates) (range_with_len 0 (length gates))
leaves_settled h gates =
    let len : ℕ = length gates in
    let zeros : List ℕ = replicate len 0 in
    let whole : List ℕ = map (leaf_at h gates) (range_with_len 0 len) in
    let R : ℕ → Type 0 = λ j. is_leaf_at gates j ≡ false in
    let p : ℕ → Bool = is_leaf_at gates in
    let value : List ℕ → ℕ → ℕ = λ u k. leaf_at h gates k in
    let at : (j : ℕ) → j < len → get_or whole j 0 ≡ leaf_at h gates j = λ j m. get_or-map-range_with_len (leaf_at h gates) 0 len j j 0 m (omega arith) in
    let right : (a : ℕ) (u : List ℕ) → a < len → p a ≡ true → Good len R p whole a u → value u a ≡ get_or whole a 0 = λ a u m q good. sym (at a m) in
    let begun : Good len R p whole 0 zeros
    = λ j m q. ⊎_elim (λ t. get_or-replicate len j 0 0 m ∙ sym (not_leaf h (count_by is_input (take j gates)) (gate_at gates j) t) ∙ sym (at j m)) (λ x. absurd (omega (arith, x.1))) q in
    let done : Good len R p whole len (fold (leaf_settled h) zeros (leaves_of gates))
    = subst (Good len R p whole len) (sym (fold-map (leaf_settled h) (leaf_of gates) zeros (filter p (range_with_len 0 len))))
    (all_written len R p whole value right len 0 len zeros (omega arith) (omega arith) (length-replicate len 0) begun) in
    let long : length (fold (leaf_settled h) zeros (leaves_of gates)) ≡ len = length-leaves_settled h zeros (leaves_of gates) ∙ length-replicate len 0 in
    ext_get_or 0 (fold (leaf_settled h) zeros (leaves_of gates)) whole (long ∙ sym (length-map-range_with_len (leaf_at h gates) 0 len))
    (λ j b. let m : j < len = omega (arith, long) in ⊎_elim (λ t. done j m (inr (t, m))) (λ t. done j m (inl t)) (cases_Bool (p j)))
