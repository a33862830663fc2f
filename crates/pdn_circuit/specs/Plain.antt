-- What blocks come to in plain: words that give each gate its value over those that it names.
use Rattle.std.specs.Prelude.{◌≡◌, ℕ, ◌+◌, ◌*◌, ◌-◌, ◌^◌, Bool, true, false, List, [], ◌∷◌, slice_index}
use Rattle.std.specs.Int.{bit_at}
use Rattle.pdn_circuit.specs.declared.gate.Gate.{Gate}
use Rattle.pdn_circuit.specs.Gates.{InputWords, gate_value}
use Rattle.pdn_circuit.specs.Blocks.{Making}

-- each of these gates, the first of which is gate n, has its value
abbrev pub Satisfies : InputWords → List ℕ → ℕ → List Gate → Type 0
Satisfies inputs words n [] = Unit {0}
Satisfies inputs words n (g ∷ gs) = (slice_index words n ≡ gate_value inputs words g) × Satisfies inputs words (n + 1) gs

-- the gates of this making stand somewhere among the words, and x is what they give
pub record Yields {A : Type 0} (inputs : InputWords) (words : List ℕ) (making : Making A) (x : A) : Type 0 where
  pub at : ℕ
  pub satisfied : Satisfies inputs words at (making at).gates
  pub gives : x ≡ (making at).result

-- gates 0 and 1 have no lane, and all of them
pub record Ends (words : List ℕ) : Type 0 where
  pub zeros : slice_index words 0 ≡ 0
  pub ones : slice_index words 1 ≡ 2 ^ 64 - 1

-- the lane of a gate
abbrev pub lane_of : List ℕ → ℕ → ℕ → ℕ
lane_of words lane gate = bit_at (slice_index words gate) lane

-- the number that these planes hold in a lane, least significant first
abbrev pub number_in : List ℕ → ℕ → List ℕ → ℕ
number_in words lane [] = 0
number_in words lane (p ∷ ps) = lane_of words lane p + 2 * number_in words lane ps

-- a truth as a lane
abbrev pub truth : Bool → ℕ
truth true = 1
truth false = 0
