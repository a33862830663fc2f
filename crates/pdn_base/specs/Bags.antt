-- Lists as bags: how often each element stands in them.
use Rattle.std.specs.Prelude.{◌≡◌, ℕ, Bool, true, not, List, [], ◌∷◌, map, count_by, filter}
use Rattle.std.specs.List.{flat_map}

-- how often x stands in xs
abbrev pub times : {X : Type 0} → (X → X → Bool) → X → List X → ℕ
times same x xs = count_by (same x) xs

-- equal as bags: each element equally often
pub record SameBag {X : Type 0} (same : X → X → Bool) (xs ys : List X) : Type 0 where
  pub times : (x : X) → times same x xs ≡ times same x ys

-- `same` tests equality
pub record TestsEquality {X : Type 0} (same : X → X → Bool) : Type 0 where
  pub itself : (x : X) → same x x ≡ true
  pub equal : (x y : X) → same x y ≡ true → x ≡ y

-- each element that occurs, once, where it occurs first
abbrev pub distinct : {X : Type 0} → (X → X → Bool) → List X → List X
distinct same [] = []
distinct same (x ∷ xs) = x ∷ filter (λ y. not (same x y)) (distinct same xs)

-- each of xs with each of ys
abbrev pub pairs : {X Y Z : Type 0} → (X → Y → Z) → List X → List Y → List Z
pairs both xs ys = flat_map (λ x. map (both x) ys) xs
