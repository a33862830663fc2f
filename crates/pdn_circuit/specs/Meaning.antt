-- What blocks mean: the words after their gates, over any words before them.
use Rattle.std.specs.Prelude.{◌≡◌, ℕ, zero, suc, ◌+◌, ◌*◌, ◌/◌, ◌%◌, ◌^◌, ◌<◌, max, List, [], ◌∷◌, ◌++◌, length, slice_index}
use Rattle.std.specs.Ordering.{nat_cmp, is_eq}
use Rattle.std.specs.List.{fold}
use Rattle.std.specs.Int.{bit_at}
use Rattle.pdn_circuit.specs.declared.gate.Gate.{Gate}
use Rattle.pdn_circuit.specs.declared.lay.Pick.{Pick}
use Rattle.pdn_circuit.specs.Blocks.{Making}
use Rattle.pdn_circuit.specs.Plain.{Yields, Ends, lane_of, number_in, truth}
use Rattle.pdn_circuit.specs.Compare.{or_gates, less_gates, less_lane, equal_gates, plus_gates}
use Rattle.pdn_circuit.specs.Gates.{InputWords, InOrder, next_values, values}
use Rattle.pdn_circuit.specs.Laying.{words_of_rows}

-- the words once these gates stand too
abbrev pub after : InputWords → List ℕ → List Gate → List ℕ
after inputs words gates = fold (next_values inputs) words gates

-- in every lane, a counter plus a bit, modulo 2 to the number of its planes
abbrev pub AddsBit : List Gate → List Gate → List ℕ → ℕ → List ℕ → Type 0
AddsBit old now counter bit sums = (inputs : InputWords) (lane : ℕ) →
    number_in (values inputs now) lane sums ≡ (number_in (values inputs old) lane counter + bit_at (slice_index (values inputs old) bit) lane) % 2 ^ length counter

-- the lane that row i comes from; false past the last row
abbrev pub row_lane : List ℕ → List Pick → ℕ → ℕ
row_lane words [] i = 0
row_lane words (p ∷ ps) zero = bit_at (slice_index words p.gate) (p.row % 64)
row_lane words (p ∷ ps) (suc i) = row_lane words ps i

-- the words hold the rows laid out: row 64 k + lane is lane `lane` of word k
abbrev pub LaysOut : List Gate → List Gate → List Pick → List ℕ → Type 0
LaysOut old now picks laid = (inputs : InputWords) (k lane : ℕ) → k < words_of_rows (length picks) → lane < 64 →
    bit_at (slice_index (values inputs now) (slice_index laid k)) lane ≡ row_lane (values inputs old) picks (64 * k + lane)

-- ---- where a block's gates stand among words that give each gate its value, in every lane:
-- or
abbrev pub OrMeans : Type 0
OrMeans = (inputs : InputWords) (words : List ℕ) (lane x y g : ℕ) → Yields inputs words (or_gates x y) g → lane_of words lane g ≡ max (lane_of words lane x) (lane_of words lane y)

-- less, and the first lane where the two are equal
abbrev pub LessMeans : Type 0
LessMeans = (inputs : InputWords) (words : List ℕ) (lane init : ℕ) (xs ys : List ℕ) (g : ℕ) → length xs ≡ length ys → Yields inputs words (less_gates init xs ys) g
    → lane_of words lane g ≡ less_lane (nat_cmp (number_in words lane xs) (number_in words lane ys)) (lane_of words lane init)

-- equality
abbrev pub EqualMeans : Type 0
EqualMeans = (inputs : InputWords) (words : List ℕ) (lane : ℕ) (xs ys : List ℕ) (g : ℕ) → lane < 64 → Ends words → length xs ≡ length ys → Yields inputs words (equal_gates xs ys) g
    → lane_of words lane g ≡ truth (is_eq (nat_cmp (number_in words lane xs) (number_in words lane ys)))

-- the sum, with the carry as its last plane
abbrev pub PlusMeans : Type 0
PlusMeans = (inputs : InputWords) (words : List ℕ) (lane : ℕ) (xs : List ℕ) (number : ℕ) (zs : List ℕ) → lane < 64 → Ends words → number < 2 ^ length xs → Yields inputs words (plus_gates xs number) zs
    → number_in words lane zs ≡ number_in words lane xs + number

-- a circuit's words give each gate its value, and so each block that stands in it yields what it gives
abbrev pub BlocksYield : Type 0 → Type 0
BlocksYield A = (inputs : InputWords) (before more : List Gate) (making : Making A) → InOrder (before ++ ((making (length before)).gates ++ more))
    → Yields inputs (values inputs (before ++ ((making (length before)).gates ++ more))) making (making (length before)).result
