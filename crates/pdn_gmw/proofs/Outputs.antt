-- The outputs: both shares make the plain words, masked or not.
use Rattle.std.proofs.Common.{◌≡◌, ℕ, List, [], ◌∷◌, length, map, cond, Bool, true, false, refl, sym, ap, ◌∙◌, arith, length-append}
use Rattle.std.specs.Prelude.{slice_index}
use Rattle.std.specs.List.{fold}
use lib.Lanes.{zip2}
use Rattle.std.proofs.lemmas.List.{length-map}
use Rattle.std.proofs.lemmas.List.Folds.{fold_along}
use Rattle.pdn_base.specs.Words.{◌⊕◌, xor_lists}
use Rattle.pdn_base.proofs.WordLaws.{xor_twice}
use Rattle.std.proofs.lemmas.Nat.{xor_comm}
use Rattle.pdn_base.proofs.WordLists.{xor_lists-map, xor_masked}
use Rattle.pdn_circuit.specs.declared.gate.Gate.{Gate}
use Rattle.pdn_base.specs.declared.site.Site.{Site}
use Rattle.pdn_base.specs.declared.site.Site.TheVariants.{A, B}
use Rattle.pdn_circuit.specs.Gates.{Net, gate_value, next_values, values, output_words}
use Rattle.pdn_dealer.specs.Sections.{Layout, Covers, part_of}
use Rattle.pdn_gmw.specs.Shares.{World, Masked, Walk, start, step, walk, a_share, b_share, share_at, output_shares, put_out, gate_view, view_of}
use Rattle.pdn_gmw.specs.Halves.{half_walk, half_of, half_outputs, shares_of, RunLaw}
use Rattle.pdn_gmw.proofs.TwoHalves.{map_same, halves_law, share_whole}

pub words_are : (world : World) (t : Layout) (gates : List Gate) → (walk world t gates).words ≡ values world.inputs gates
words_are world t gates =
    fold_along (step world t) (next_values world.inputs) (λ (w : Walk) (ws : List ℕ). w.words ≡ ws)
    (λ w ws g e. ap (λ (vs : List ℕ). next_values world.inputs vs g) e) start [] gates refl

-- B's shares of the outputs are the plain words and A's shares
pub b_outputs : (world : World) (t : Layout) (net : Net) → xor_lists (output_words world.inputs net) (output_shares A world t net) ≡ output_shares B world t net
b_outputs world t net =
    let w : Walk = walk world t net.gates in
    ap (λ (vs : List ℕ). xor_lists (map (λ o. slice_index vs o) net.outputs) (output_shares A world t net)) (sym (words_are world t net.gates))
    ∙ xor_lists-map (λ o. slice_index w.words o) (λ o. slice_index w.a o) net.outputs

pub outputs_open : (world : World) (t : Layout) (net : Net) → xor_lists (output_shares A world t net) (output_shares B world t net) ≡ output_words world.inputs net
outputs_open world t net =
    let w : Walk = walk world t net.gates in
    xor_lists-map (λ o. slice_index w.a o) (λ o. b_share w o) net.outputs
    ∙ map_same (λ o. slice_index w.a o ⊕ b_share w o) (λ o. slice_index w.words o) net.outputs
    (λ o. ap (λ n. slice_index w.a o ⊕ n) (xor_comm (slice_index w.words o) (slice_index w.a o)) ∙ xor_twice (slice_index w.a o) (slice_index w.words o))
    ∙ ap (λ (vs : List ℕ). map (λ o. slice_index vs o) net.outputs) (words_are world t net.gates)

opened_by : (released : Bool) (xs ys ms : List ℕ) → length xs ≡ length ys → (released ≡ true → length ms ≡ length xs)
    → xor_lists (cond released (xor_lists xs ms) xs) (cond released (xor_lists ys ms) ys) ≡ xor_lists xs ys
opened_by true xs ys ms l m = xor_masked xs ys ms (sym l) (m refl)
opened_by false xs ys ms l m = refl

pub put_out_open : (world : World) (t : Layout) (net : Net) → Covers net t → xor_lists (put_out A world t net) (put_out B world t net) ≡ output_words world.inputs net
put_out_open world t net c =
    let la : length (output_shares A world t net) ≡ length net.outputs = length-map net.outputs (share_at A (walk world t net.gates)) in
    let lb : length (output_shares B world t net) ≡ length net.outputs = length-map net.outputs (share_at B (walk world t net.gates)) in
    opened_by net.released (output_shares A world t net) (output_shares B world t net) t.masks (la ∙ sym lb) (λ e. c.masks ∙ ap (λ b. cond b (length net.outputs) 0) e ∙ sym la)
    ∙ outputs_open world t net

-- ---- the two halves of a run
length_along : (world : World) (t : Layout) (gates : List Gate) (w : Walk) → length w.a ≡ length w.words → length (fold (step world t) w gates).a ≡ length (fold (step world t) w gates).words
length_along world t [] w l = l
length_along world t (g ∷ gs) w l =
    length_along world t gs (step world t w g) (omega (arith, length-append w.a (a_share world t w g ∷ []), length-append w.words (gate_value world.inputs w.words g ∷ [])))

pub length-walk : (world : World) (t : Layout) (gates : List Gate) → length (walk world t gates).a ≡ length (walk world t gates).words
length-walk world t gates = length_along world t gates start refl

pub run_law : RunLaw
run_law world t net to_a to_b l c talk =
    let are = halves_law world t net.gates to_a to_b l talk in
    let w : Walk = walk world t net.gates in
    let long = length-walk world t net.gates in
    let put : (site : Site) (heard : List Masked) → (half_walk (half_of site world t) heard net.gates).shares ≡ shares_of site w → half_outputs (half_of site world t) heard net ≡ put_out site world t net
    = λ site heard e.
    let same : map (λ o. slice_index (half_walk (half_of site world t) heard net.gates).shares o) net.outputs ≡ output_shares site world t net
    = ap (λ (xs : List ℕ). map (λ o. slice_index xs o) net.outputs) e ∙ map_same (λ o. slice_index (shares_of site w) o) (share_at site w) net.outputs (share_whole site w long) in
    ap (λ (xs : List ℕ). cond net.released (xor_lists xs t.masks) xs) same in
    let pa = put A to_a are.shares_a in
    let pb = put B to_b are.shares_b in
    record {
      view_a = ap (λ (ms : List Masked). record (view_of A world t net) { gates = zip2 gate_view (part_of A t).triples ms }) are.heard_a;
      view_b = ap (λ (ms : List Masked). record (view_of B world t net) { gates = zip2 gate_view (part_of B t).triples ms }) are.heard_b;
      outputs_a = pa;
      outputs_b = pb;
      opens = ap (λ (xs : List ℕ). xor_lists xs (half_outputs (half_of B world t) to_b net)) pa ∙ ap (λ (ys : List ℕ). xor_lists (put_out A world t net) ys) pb ∙ put_out_open world t net c;
    }
