-- The words that a circuit's gates read are there.
use Rattle.std.proofs.Common.{◌≡◌, ℕ, suc, ◌+◌, ◌<◌, ◌≤◌, List, [], ◌∷◌, ◌++◌, length, get_or, take, Bool, true, cond, refl, sym, ap, ◌∙◌, subst, arith, length-append}
use Rattle.std.specs.List.{fold, count_by}
use Rattle.std.specs.Prelude.{slice_index_or}
use Rattle.std.proofs.lemmas.List.Sums.{count_by_more_yes, sum_by-take-le}
use Rattle.std.proofs.lemmas.List.{length-take-le}
use Rattle.pdn_base.specs.declared.site.Site.{Site}
use Rattle.pdn_base.specs.declared.site.Site.TheVariants.{A, B}
use Rattle.pdn_circuit.specs.declared.gate.Gate.{Gate}
use Rattle.pdn_circuit.specs.declared.gate.Gate.TheVariants.{Input, Given, Const, Xor, And, Spread, Move}
use Rattle.pdn_circuit.specs.Gates.{Net, InputWords, words_of, next_values, gate_value, values, NamesBelow, LanesFit, TakesNext, is_input_of, is_given, input_count, given_count, AreGates, IsCircuit, HasCounts, CanRead}

pub length_after : (inputs : InputWords) (gates : List Gate) (words : List ℕ) → length (fold (next_values inputs) words gates) ≡ length words + length gates
length_after inputs [] words = omega arith
length_after inputs (g ∷ gs) words =
    let new : List ℕ = gate_value inputs words g ∷ [] in
    length_after inputs gs (words ++ new) ∙ omega (arith, length-append words new)

pub length-values : (inputs : InputWords) (gates : List Gate) → length (values inputs gates) ≡ length gates
length-values inputs gates = length_after inputs gates [] ∙ omega arith

pub counts_on : (p : Gate → Bool) (gates : List Gate) (k : ℕ) (gate : Gate) → k < length gates → p (slice_index_or gates k gate) ≡ true → count_by p (take k gates) < count_by p gates
counts_on p gates k gate h here = omega (arith, count_by_more_yes p gates k gate h here, sum_by-take-le (λ (g : Gate). cond (p g) 1 0) gates (k + 1))

reads : (inputs : InputWords) (gates before : List Gate) (words : List ℕ) (gate : Gate)
    → ((site : Site) → is_input_of site gate ≡ true → input_count site before < length (words_of site inputs))
    → (is_given gate ≡ true → given_count before < length inputs.given)
    → NamesBelow (length words) gate → LanesFit gate → TakesNext before gate → CanRead inputs words gate
reads inputs gates before words (Input A index) i g n l t = subst (λ (k : ℕ). k < length inputs.a) (sym t) (i A refl)
reads inputs gates before words (Input B index) i g n l t = subst (λ (k : ℕ). k < length inputs.b) (sym t) (i B refl)
reads inputs gates before words (Given index) i g n l t = subst (λ (k : ℕ). k < length inputs.given) (sym t) (g refl)
reads inputs gates before words (Const word) i g n l t = tt
reads inputs gates before words (Xor a b) i g n l t = n
reads inputs gates before words (And a b) i g n l t = n
reads inputs gates before words (Spread a lane) i g n l t = (n, l)
reads inputs gates before words (Move a from count to) i g n l t = (n, l.0, l.1, l.2)

inputs_there : (net : Net) (inputs : InputWords) (site : Site) → HasCounts net inputs → length (words_of site inputs) ≡ input_count site net.gates
inputs_there net inputs A h = h.a
inputs_there net inputs B h = h.b

pub can_read : (net : Net) (inputs : InputWords) (words : List ℕ) (k : ℕ) (gate : Gate) → IsCircuit net → HasCounts net inputs → k < length net.gates
    → words ≡ values inputs (take k net.gates) → gate ≡ slice_index_or net.gates k gate → CanRead inputs words gate
can_read net inputs words k gate is counts h stand here =
    let long : k ≡ length words = sym (ap length stand ∙ length-values inputs (take k net.gates) ∙ length-take-le k net.gates (omega arith)) in
    reads inputs net.gates (take k net.gates) words gate
    (λ site e. subst (λ (n : ℕ). input_count site (take k net.gates) < n) (sym (inputs_there net inputs site counts)) (counts_on (is_input_of site) net.gates k gate h (ap (is_input_of site) (sym here) ∙ e)))
    (λ e. subst (λ (n : ℕ). given_count (take k net.gates) < n) (sym counts.given) (counts_on is_given net.gates k gate h (ap is_given (sym here) ∙ e)))
    (subst (λ (n : ℕ). NamesBelow n gate) long (subst (λ (g : Gate). NamesBelow k g) (sym here) (is.gates.order.at k gate h)))
    (subst (λ (g : Gate). LanesFit g) (sym here) (is.gates.lanes.at k gate h))
    (subst (λ (g : Gate). TakesNext (take k net.gates) g) (sym here) (is.gates.numbers.at k gate h))
