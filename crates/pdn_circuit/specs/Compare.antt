-- Blocks that compare and add numbers, lane by lane. A number is a list of planes, least significant first.
use Rattle.std.specs.Prelude.{ℕ, List, [], ◌∷◌, ◌++◌, length, map}
use Rattle.std.specs.List.{range_with_len}
use Rattle.std.specs.Int.{bit_at}
use Rattle.std.proofs.Common.{Ordering, Less, Equal, Greater}
use Rattle.pdn_circuit.specs.declared.gate.Gate.TheVariants.{Xor, And}
use Rattle.pdn_circuit.specs.declared.sums.SumPlane.{SumPlane}
use Rattle.pdn_circuit.specs.Blocks.{Making, gives, one, ◌>>=◌}

-- gates 0 and 1 of each circuit have no lane, and all of them
abbrev pub zero_gate : ℕ
zero_gate = 0

abbrev pub one_gate : ℕ
one_gate = 1

abbrev pub not_gates : ℕ → Making ℕ
not_gates x = one (Xor x one_gate)

abbrev pub or_gates : ℕ → ℕ → Making ℕ
or_gates x y = do
  both ← one (And x y)
  differ ← one (Xor x y)
  one (Xor differ both)

-- ---- equality: for each plane whether both agree, and then all of these
abbrev pub agree_gates : List ℕ → List ℕ → Making (List ℕ)
agree_gates [] ys = gives []
agree_gates (x ∷ xs) [] = gives []
agree_gates (x ∷ xs) (y ∷ ys) = do
  differ ← one (Xor x y)
  agree ← not_gates differ
  rest ← agree_gates xs ys
  gives (agree ∷ rest)

-- these, from the left, and what came before
abbrev pub all_gates : ℕ → List ℕ → Making ℕ
all_gates acc [] = gives acc
all_gates acc (t ∷ ts) = do
  next ← one (And acc t)
  all_gates next ts

-- all of these; where there is none, every lane
abbrev pub all_of_gates : List ℕ → Making ℕ
all_of_gates [] = gives one_gate
all_of_gates (t ∷ ts) = all_gates t ts

abbrev pub equal_gates : List ℕ → List ℕ → Making ℕ
equal_gates xs ys = do
  agree ← agree_gates xs ys
  all_of_gates agree

-- ---- whether x is less than y; where the two are equal, what came before
abbrev pub less_gates : ℕ → List ℕ → List ℕ → Making ℕ
less_gates less [] ys = gives less
less_gates less (x ∷ xs) [] = gives less
less_gates less (x ∷ xs) (y ∷ ys) = do
  differ ← one (Xor x y)
  change ← one (Xor y less)
  changed ← one (And differ change)
  next ← one (Xor less changed)
  less_gates next xs ys

-- ---- the sum of two numbers and a carry: its planes, and last the carry out
abbrev pub sum_gates : ℕ → List ℕ → List ℕ → Making (List ℕ)
sum_gates carry [] ys = gives (carry ∷ [])
sum_gates carry (x ∷ xs) [] = gives (carry ∷ [])
sum_gates carry (x ∷ xs) (y ∷ ys) = do
  u ← one (Xor x carry)
  v ← one (Xor y carry)
  both ← one (And u v)
  sum ← one (Xor u y)
  next ← one (Xor both carry)
  rest ← sum_gates next xs ys
  gives (sum ∷ rest)

-- a number as planes that need no gates of their own: gate 0 or 1 for each of its bits
abbrev pub literal_planes : ℕ → ℕ → List ℕ
literal_planes width number = map (bit_at number) (range_with_len 0 width)

abbrev pub plus_gates : List ℕ → ℕ → Making (List ℕ)
plus_gates xs number = sum_gates zero_gate xs (literal_planes (length xs) number)

-- 1 where the first of two is less, 0 where it is greater, and what came before where they are equal
abbrev pub less_lane : Ordering → ℕ → ℕ
less_lane Less before = 1
less_lane Equal before = before
less_lane Greater before = 0

-- one plane of `less_gates`
abbrev pub less_plane_gates : ℕ → ℕ → ℕ → Making ℕ
less_plane_gates less x y = do
  differ ← one (Xor x y)
  change ← one (Xor y less)
  changed ← one (And differ change)
  one (Xor less changed)

-- one plane of `agree_gates`
abbrev pub agree_plane_gates : ℕ → ℕ → Making ℕ
agree_plane_gates x y = do
  differ ← one (Xor x y)
  not_gates differ

-- one plane of `sum_gates`: the sum, and the carry out
abbrev pub sum_plane_gates : ℕ → ℕ → ℕ → Making SumPlane
sum_plane_gates carry x y = do
  u ← one (Xor x carry)
  v ← one (Xor y carry)
  both ← one (And u v)
  sum ← one (Xor u y)
  next ← one (Xor both carry)
  gives (record { sum = sum; carry = next })
