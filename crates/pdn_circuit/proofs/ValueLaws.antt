-- The words of a circuit's gates, gate by gate.
use Rattle.std.proofs.Common.{◌≡◌, ℕ, suc, ◌+◌, ◌<◌, List, [], ◌∷◌, ◌++◌, length, get_or, map, refl, ap, ◌∙◌, subst, arith, length-append, sym, append-nil, append_assoc}
use Rattle.std.specs.Prelude.{slice_index_or}
use Rattle.std.specs.List.{fold}
use Rattle.std.proofs.lemmas.List.{get_or_append_left, map-append}
use Rattle.pdn_circuit.specs.declared.gate.Gate.{Gate}
use Rattle.pdn_circuit.specs.declared.gate.Gate.TheVariants.{Input, Given, Const, Xor, And, Spread, Move}
use Rattle.pdn_circuit.specs.Gates.{InputWords, gate_value, next_values, values, Pair, read_pair, operands_of, ands, operand_words, NamesBelow, InOrder}

-- more gates change no word that stands
pub words_stand : (inputs : InputWords) (gates : List Gate) (words : List ℕ) (k : ℕ) → k < length words → get_or (fold (next_values inputs) words gates) k 0 ≡ get_or words k 0
words_stand inputs [] words k h = refl
words_stand inputs (g ∷ gs) words k h =
    let new : List ℕ = gate_value inputs words g ∷ [] in
    words_stand inputs gs (words ++ new) k (omega (arith, length-append words new)) ∙ get_or_append_left words new 0 k h

-- the words of an And gate's operands, as they stand when the gate is reached
abbrev pub opens : List ℕ → Gate → List Pair
opens words gate = map (read_pair words) (operands_of gate)

abbrev pub opened : InputWords → List ℕ → List Gate → List Pair
opened inputs words [] = []
opened inputs words (g ∷ gs) = opens words g ++ opened inputs (next_values inputs words g) gs

opens_whole : (whole words : List ℕ) (g : Gate) → ((k : ℕ) → k < length words → get_or whole k 0 ≡ get_or words k 0) → NamesBelow (length words) g → opens whole g ≡ opens words g
opens_whole whole words (Input site index) h n = refl
opens_whole whole words (Given index) h n = refl
opens_whole whole words (Const word) h n = refl
opens_whole whole words (Xor a b) h n = refl
opens_whole whole words (And a b) h n = rw (h a n.0, h b n.1) refl
opens_whole whole words (Spread a lane) h n = refl
opens_whole whole words (Move a from count to) h n = refl

opened_along : (inputs : InputWords) (gates : List Gate) (words whole : List ℕ) → whole ≡ fold (next_values inputs) words gates
    → ((k : ℕ) (other : Gate) → k < length gates → NamesBelow (length words + k) (slice_index_or gates k other))
    → map (read_pair whole) (ands gates) ≡ opened inputs words gates
opened_along inputs [] words whole e h = refl
opened_along inputs (g ∷ gs) words whole e h =
    let new : List ℕ = gate_value inputs words g ∷ [] in
    let here : NamesBelow (length words) g = subst (λ (n : ℕ). NamesBelow n g) (omega arith) (h 0 g (omega arith)) in
    let stand : (k : ℕ) → k < length words → get_or whole k 0 ≡ get_or words k 0 = λ k l. ap (λ (ws : List ℕ). get_or ws k 0) e ∙ words_stand inputs (g ∷ gs) words k l in
    let rest = opened_along inputs gs (words ++ new) whole e (λ k other l.
    subst (λ (n : ℕ). NamesBelow n (slice_index_or gs k other)) (omega (arith, length-append words new)) (h (suc k) other (omega arith))) in
    map-append (read_pair whole) (operands_of g) (ands gs)
    ∙ rw (opens_whole whole words g stand here, rest) refl

pub operand_words_along : (inputs : InputWords) (gates : List Gate) → InOrder gates → operand_words inputs gates ≡ opened inputs [] gates
operand_words_along inputs gates o = opened_along inputs gates [] (values inputs gates) refl (λ k other l. subst (λ (n : ℕ). NamesBelow n (slice_index_or gates k other)) (omega arith) (o.at k other l))

-- ---- the And gates, one gate more
pub ands_more : (gs : List Gate) (g : Gate) → ands (gs ++ g ∷ []) ≡ ands gs ++ operands_of g
ands_more [] g = append-nil (operands_of g)
ands_more (h ∷ gs) g = ap (λ (ps : List Pair). operands_of h ++ ps) (ands_more gs g) ∙ sym (append_assoc (operands_of h) (ands gs) (operands_of g))
