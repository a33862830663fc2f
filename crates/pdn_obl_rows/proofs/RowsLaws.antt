-- The valid rows of a list, from its lanes.
use Rattle.std.proofs.Common.{◌≡◌, ℕ, zero, suc, ◌+◌, ◌<◌, Bool, true, false, ◌&&◌, cond, List, [], ◌∷◌, ◌++◌, length, map, filter, refl, sym, ap, ap₂, ◌∙◌, arith, nat_eq}
use Rattle.std.specs.List.{range_with_len}
use Rattle.pdn_circuit.specs.Plain.{truth}
use Rattle.pdn_base.specs.declared.value.Value.{Value}
use Rattle.pdn_obl_rows.specs.Lists.{PaddedList, lane_in, row_at, is_valid, valid_rows}

-- tests that agree from a place on
pub filter_range : (p q : ℕ → Bool) (from count : ℕ) → ((i : ℕ) → i < from + count → p i ≡ q i) → filter p (range_with_len from count) ≡ filter q (range_with_len from count)
filter_range p q from zero h = refl
filter_range p q from (suc count) h =
    ap₂ (λ b (xs : List ℕ). cond b (from ∷ xs) xs) (h from (omega arith)) (filter_range p q (from + 1) count (λ i l. h i (omega arith)))

pub map_filter_range : {X : Type 0} (f g : ℕ → X) (p : ℕ → Bool) (from count : ℕ) → ((i : ℕ) → i < from + count → f i ≡ g i) → map f (filter p (range_with_len from count)) ≡ map g (filter p (range_with_len from count))
map_filter_range f g p from zero h = refl
map_filter_range {X} f g p from (suc count) h =
    let rest = map_filter_range f g p (from + 1) count (λ i l. h i (omega arith)) in
    step (p from) (h from (omega arith)) rest
  where
    step : (b : Bool) → f from ≡ g from → map f (filter p (range_with_len (from + 1) count)) ≡ map g (filter p (range_with_len (from + 1) count))
        → map f (cond b (from ∷ filter p (range_with_len (from + 1) count)) (filter p (range_with_len (from + 1) count))) ≡ map g (cond b (from ∷ filter p (range_with_len (from + 1) count)) (filter p (range_with_len (from + 1) count)))
    step true e rest = ap₂ (λ x ys. x ∷ ys) e rest
    step false e rest = rest

-- a test more, on what stands at a place
pub filter_and : {X : Type 0} (f : ℕ → X) (p : ℕ → Bool) (t : X → Bool) (xs : List ℕ) → map f (filter (λ i. p i && t (f i)) xs) ≡ filter t (map f (filter p xs))
filter_and f p t [] = refl
filter_and f p t (x ∷ xs) = step (p x) (t (f x)) refl (filter_and f p t xs)
  where
    step : (b c : Bool) → t (f x) ≡ c → map f (filter (λ i. p i && t (f i)) xs) ≡ filter t (map f (filter p xs))
        → map f (cond (b && c) (x ∷ filter (λ i. p i && t (f i)) xs) (filter (λ i. p i && t (f i)) xs)) ≡ filter t (map f (cond b (x ∷ filter p xs) (filter p xs)))
    step true true e h = ap (λ ys. f x ∷ ys) h ∙ sym (ap (λ b. cond b (f x ∷ filter t (map f (filter p xs))) (filter t (map f (filter p xs)))) e)
    step true false e h = h ∙ sym (ap (λ b. cond b (f x ∷ filter t (map f (filter p xs))) (filter t (map f (filter p xs)))) e)
    step false c e h = h

truth_is : (b : Bool) → nat_eq (truth b) 1 ≡ b
truth_is true = refl
truth_is false = refl

pub valid_from : (words : List ℕ) (list : PaddedList) (row : ℕ) (b : Bool) → lane_in words list.valid row ≡ truth b → is_valid words list row ≡ b
valid_from words list row b e = ap (λ n. nat_eq n 1) e ∙ truth_is b

lane_truth : (n : ℕ) → n < 2 → n ≡ truth (nat_eq n 1)
lane_truth zero h = refl
lane_truth (suc zero) h = refl
lane_truth (suc (suc n)) h = absurd (omega arith)

pub valid_lane_is : (words : List ℕ) (list : PaddedList) (row : ℕ) → lane_in words list.valid row < 2 → lane_in words list.valid row ≡ truth (is_valid words list row)
valid_lane_is words list row h = lane_truth (lane_in words list.valid row) h
