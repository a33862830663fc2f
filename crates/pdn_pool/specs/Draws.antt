-- Numbers that seats draw from one word.
use Rattle.std.specs.Prelude.{◌≡◌, ℕ, ◌+◌, ◌*◌, ◌≤◌, ◌==◌, if◌then◌else◌, nat_lt, List, [], ◌∷◌, ◌++◌, length, slice_index}
use mathlib.Core.Option.{some}
use lib.ListN.{get_elem?}
use Rattle.pdn_pool.specs.declared.rule.Hand.{Hand}

-- f of each hand, added up
unfoldable pub total : (Hand → ℕ) → List Hand → ℕ
total f [] = 0
total f (v ∷ vs) = f v + total f vs

-- how often x stands in the list
unfoldable pub times : ℕ → List ℕ → ℕ
times x [] = 0
times x (y ∷ ys) = (if y == x then 1 else 0) + times x ys

-- 1 for each number below n, and else 0
abbrev pub once_below : ℕ → ℕ → ℕ
once_below x n = if nat_lt x n then 1 else 0

abbrev pub hand : ℕ → List ℕ → Hand
hand weight drawn = record { weight = weight; drawn = drawn }

-- a list is at most as long as its weight times 2 ^ 32 - 1, so a hand of weight 0 drew nothing
abbrev pub HasRoom : Hand → Type 0
HasRoom v = length v.drawn ≤ v.weight * 4294967295

-- The rule over the word and the hands of all seats: what was drawn are the numbers below the word, each once.
-- The weights bound how many were drawn, so the word stays below 2 ^ 48.
pub record Draws (words : List ℕ) (views : List Hand) : Type 0 where
  pub word : length words ≡ 1
  pub each_once : (x : ℕ) → total (λ v. times x v.drawn) views ≡ once_below x (slice_index words 0)
  pub lengths : total (λ v. length v.drawn) views ≡ slice_index words 0
  pub weights : total (λ v. v.weight) views ≡ 65535
  pub room : (k : ℕ) (v : Hand) → get_elem? views k ≡ some v → HasRoom v

-- a draw: the number found goes to the end of the list, and is at least as large as the list was long
pub record IsDraw (old : Hand) (found : ℕ) (new : Hand) : Type 0 where
  pub appended : new ≡ hand old.weight (old.drawn ++ found ∷ [])
  pub least : length old.drawn ≤ found
