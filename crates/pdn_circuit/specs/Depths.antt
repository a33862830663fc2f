-- Rounds: when a gate's share can be known, and depths, which are the least that do.
use Rattle.std.specs.Prelude.{◌≡◌, ◌⊎◌, ℕ, ◌+◌, ◌<◌, ◌≤◌, max, List, [], ◌∷◌, ◌++◌, length, slice_index, slice_index_or, map, take}
use Rattle.std.specs.List.{fold, range_with_len}
use Rattle.pdn_circuit.specs.declared.gate.Gate.{Gate}
use Rattle.pdn_circuit.specs.Gates.{ands, operands_of, InOrder}
use Rattle.pdn_circuit.specs.declared.gate.Gate.TheVariants.{Input, Given, Const, Xor, And, Spread, Move}

-- a gate of this round stands after what it reads: an And gate in a later round, the others in no earlier one
abbrev pub IsAfter : (ℕ → ℕ) → ℕ → Gate → Type 0
IsAfter round own (Input site index) = Unit {0}
IsAfter round own (Given index) = Unit {0}
IsAfter round own (Const word) = Unit {0}
IsAfter round own (Xor a b) = (round a ≤ own) × (round b ≤ own)
IsAfter round own (And a b) = (round a < own) × (round b < own)
IsAfter round own (Spread a lane) = round a ≤ own
IsAfter round own (Move a from count to) = round a ≤ own

-- a round for each gate
pub record InRounds (gates : List Gate) (rounds : List ℕ) : Type 0 where
  pub at : (k : ℕ) (other : Gate) → k < length gates → IsAfter (slice_index rounds) (slice_index rounds k) (slice_index_or gates k other)

abbrev pub own_round : Gate → ℕ → List ℕ
own_round gate own = map (λ p. own) (operands_of gate)

-- the rounds of the And gates among these, in gate order; the first of these is gate `from`
abbrev pub and_rounds_from : (ℕ → ℕ) → ℕ → List Gate → List ℕ
and_rounds_from round from [] = []
and_rounds_from round from (g ∷ gs) = own_round g (round from) ++ and_rounds_from round (from + 1) gs

abbrev pub and_rounds : List Gate → List ℕ → List ℕ
and_rounds gates rounds = and_rounds_from (slice_index rounds) 0 gates

-- ---- the depth of an And gate, by what it means
abbrev pub IsAnd : Gate → Type 0
IsAnd (Input site index) = ⊥
IsAnd (Given index) = ⊥
IsAnd (Const word) = ⊥
IsAnd (Xor a b) = ⊥
IsAnd (And a b) = Unit {0}
IsAnd (Spread a lane) = ⊥
IsAnd (Move a from count to) = ⊥

abbrev pub AndAt : List Gate → ℕ → Type 0
AndAt gates k = (k < length gates) × ((other : Gate) → IsAnd (slice_index_or gates k other))

abbrev pub Names : ℕ → Gate → Type 0
Names i (Input site index) = ⊥
Names i (Given index) = ⊥
Names i (Const word) = ⊥
Names i (Xor a b) = (i ≡ a) ⊎ (i ≡ b)
Names i (And a b) = (i ≡ a) ⊎ (i ≡ b)
Names i (Spread a lane) = i ≡ a
Names i (Move a from count to) = i ≡ a

-- gate j reads gate i
abbrev pub IsRead : List Gate → ℕ → ℕ → Type 0
IsRead gates i j = (j < length gates) × ((other : Gate) → Names i (slice_index_or gates j other))

-- each reads the one before it, from gate i to gate j
abbrev pub IsPath : List Gate → ℕ → List ℕ → ℕ → Type 0
IsPath gates i [] j = IsRead gates i j
IsPath gates i (m ∷ ms) j = IsRead gates i m × IsPath gates m ms j

-- gate j reads gate i, at once or through further gates
abbrev pub Below : List Gate → ℕ → ℕ → Type 0
Below gates i j = (path : List ℕ) × IsPath gates i path j

-- an And gate is deeper than each And gate below it, by one than some of them, and has depth 1 where there is none
pub record IsDepth (gates : List Gate) (depth : ℕ → ℕ) : Type 0 where
  pub above : (i k : ℕ) → AndAt gates i → AndAt gates k → Below gates i k → depth i < depth k
  pub tight : (k : ℕ) → AndAt gates k → (depth k ≡ 1) ⊎ ((i : ℕ) × AndAt gates i × Below gates i k × (depth k ≡ depth i + 1))

-- ---- the same as it is computed
-- the longest chain of And gates that ends with this gate or below it
abbrev pub gate_depth : List ℕ → Gate → ℕ
gate_depth depths (Input site index) = 0
gate_depth depths (Given index) = 0
gate_depth depths (Const word) = 0
gate_depth depths (Xor a b) = max (slice_index depths a) (slice_index depths b)
gate_depth depths (And a b) = 1 + max (slice_index depths a) (slice_index depths b)
gate_depth depths (Spread a lane) = slice_index depths a
gate_depth depths (Move a from count to) = slice_index depths a

abbrev pub next_depths : List ℕ → Gate → List ℕ
next_depths depths gate = depths ++ gate_depth depths gate ∷ []

abbrev pub depths_of : List Gate → List ℕ
depths_of gates = fold next_depths [] gates

-- the other end: each And gate has a round of its own, in gate order
abbrev pub counts_of : List Gate → List ℕ
counts_of gates = map (λ k. length (ands (take (k + 1) gates))) (range_with_len 0 (length gates))

abbrev pub DepthsAreRounds : Type 0
DepthsAreRounds = (gates : List Gate) → InOrder gates → InRounds gates (depths_of gates)

abbrev pub CountsAreRounds : Type 0
CountsAreRounds = (gates : List Gate) → InOrder gates → InRounds gates (counts_of gates)
