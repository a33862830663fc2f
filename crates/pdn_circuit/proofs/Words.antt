-- The words before and after gates.
use Rattle.std.proofs.Common.{◌≡◌, ℕ, suc, ◌+◌, ◌*◌, ◌<◌, List, [], ◌∷◌, ◌++◌, length, get_or, refl, sym, ap, ◌∙◌, subst, arith, length-append}
use Rattle.std.specs.Int.{bit_at}
use Rattle.std.specs.List.{All, fold}
use Rattle.std.proofs.lemmas.List.Sums.{fold-append}
use Rattle.std.proofs.lemmas.List.{get_or_append_left, get_or_at}
use Rattle.pdn_circuit.specs.declared.gate.Gate.{Gate}
use Rattle.pdn_circuit.specs.Blocks.{Block}
use Rattle.pdn_circuit.specs.Building.{Made, Makes}
use Rattle.pdn_circuit.specs.Gates.{InputWords, gate_value, next_values, values}
use Rattle.pdn_circuit.specs.Meaning.{after}
use Rattle.pdn_circuit.specs.Plain.{number_in}
use Rattle.pdn_circuit.proofs.Reading.{length_after, length-values}
use Rattle.pdn_circuit.proofs.ValueLaws.{words_stand}

-- the words of what a builder holds after a block
pub values_after : {A : Type 0} (inputs : InputWords) (old now : Made) (block : Block A) (x : A) → Makes old now block x → values inputs now.gates ≡ after inputs (values inputs old.gates) block.gates
values_after inputs old now block x m = ap (values inputs) m.gates ∙ fold-append (next_values inputs) [] old.gates block.gates

pub after-append : (inputs : InputWords) (words : List ℕ) (xs ys : List Gate) → after inputs words (xs ++ ys) ≡ after inputs (after inputs words xs) ys
after-append inputs words xs ys = fold-append (next_values inputs) words xs ys

pub length-after : (inputs : InputWords) (words : List ℕ) (gates : List Gate) → length (after inputs words gates) ≡ length words + length gates
length-after inputs words gates = length_after inputs gates words

-- a word that stands is not changed
pub stands_after : (inputs : InputWords) (words : List ℕ) (gates : List Gate) (k : ℕ) → k < length words → get_or (after inputs words gates) k 0 ≡ get_or words k 0
stands_after inputs words gates k h = words_stand inputs gates words k h

-- the word of the first gate
pub first_word : (inputs : InputWords) (words : List ℕ) (gate : Gate) (gates : List Gate) → get_or (after inputs words (gate ∷ gates)) (length words) 0 ≡ gate_value inputs words gate
first_word inputs words gate gates =
    let new : List ℕ = gate_value inputs words gate ∷ [] in
    stands_after inputs (words ++ new) gates (length words) (omega (arith, length-append words new)) ∙ get_or_at words (gate_value inputs words gate) [] 0 (length words) refl

abbrev pub number_at : List ℕ → List ℕ → ℕ → ℕ
number_at words planes lane = number_in words lane planes

-- nor is the number that planes hold
pub number_stands : (inputs : InputWords) (words : List ℕ) (gates : List Gate) (planes : List ℕ) (lane : ℕ) → All (λ p. p < length words) planes → number_at (after inputs words gates) planes lane ≡ number_at words planes lane
number_stands inputs words gates [] lane within = refl
number_stands inputs words gates (p ∷ ps) lane within =
    ap (λ n. bit_at n lane + 2 * number_at (after inputs words gates) ps lane) (stands_after inputs words gates p (within 0 0 (omega arith)))
    ∙ ap (λ n. bit_at (get_or words p 0) lane + 2 * n) (number_stands inputs words gates ps lane (λ k d l. within (suc k) d (omega arith)))
