-- A row's place in its partition, from the rows that count at it; and the numbered rows of a list.
use Rattle.std.proofs.Common.{◌≡◌, ℕ, zero, suc, ◌+◌, ◌<◌, ◌≤◌, ◌^◌, Bool, true, false, ◌&&◌, ◌||◌, cond, List, [], ◌∷◌, ◌++◌, length, map, filter, count_by, refl, sym, ap, ap₂, ◌∙◌, subst, arith, append-nil, true≢false, nat_le, Ordering, Less, Equal, Greater}
use Rattle.std.specs.Prelude.{slice_index}
use Rattle.std.specs.List.{range_with_len}
use Rattle.std.specs.Ordering.{is_lt, is_eq}
use Rattle.std.proofs.lemmas.Bool.{le-leb, lt-leb}
use Rattle.std.proofs.lemmas.List.{take_all}
use Rattle.std.proofs.lemmas.List.Sums.{sum_by-cons, sum_by-append}
use Rattle.std.proofs.lemmas.List.FromFn.{length-map-range_with_len}
use Rattle.std.proofs.lemmas.Cmp.{tied_itself}
use Rattle.pdn_base.specs.declared.marks.Kind.TheVariants as kind
use Rattle.pdn_base.specs.declared.value.Value.{Value}
use Rattle.pdn_base.specs.declared.value.Value.TheVariants as value
use Rattle.pdn_base.specs.declared.order.Key.{Key}
use Rattle.pdn_base.specs.Bags.{times}
use Rattle.pdn_base.specs.Totals.{row_cmp-total}
use Rattle.pdn_base.specs.Values.{cut, same_row, row_cmp}
use Rattle.pdn_base.specs.Operators.{before_in, place_of, number_from, number_rows}
use Rattle.pdn_base.proofs.RowLaws.{row_cmp-ties, same_row-tests, is_eq-tie}
use Rattle.pdn_circuit.specs.Gates.{InputWords}
use Rattle.pdn_circuit.specs.Plain.{Yields, Ends}
use Rattle.pdn_circuit.proofs.PlainLaws.{yields-gives, yields-then}
use Rattle.pdn_obl_rows.specs.Lists.{PaddedList, IsShaped, number_at, row_at, is_valid, valid_rows}
use Rattle.pdn_obl_rows.proofs.CellLaws.{cells_append}
use Rattle.pdn_obl_rows.proofs.LaidLaws.{range-add, rows_add}
use Rattle.pdn_obl_group.specs.Loops.{count_planes, counts_column}
use Rattle.pdn_obl_group.proofs.AgreeLaws.{same_truth}
use Rattle.pdn_obl_rank.specs.Keys.{KeysFit}
use Rattle.pdn_obl_rank.specs.Means.{NumberMeans}
use Rattle.pdn_obl_rank.specs.Numbers.{with_counts, number_gates}
use Rattle.pdn_obl_rank.proofs.CountLaws.{comes_to, counted}

-- ---- counts
count_both : {X : Type 0} (t p q : X → Bool) → ((x : X) → cond (t x) 1 0 ≡ cond (p x) 1 0 + cond (q x) 1 0) → (xs : List X) → count_by t xs ≡ count_by p xs + count_by q xs
count_both t p q h [] = refl
count_both t p q h (x ∷ xs) =
    omega (arith, sum_by-cons (λ y. cond (t y) 1 0) x xs, sum_by-cons (λ y. cond (p y) 1 0) x xs, sum_by-cons (λ y. cond (q y) 1 0) x xs, h x, count_both t p q h xs)

count_range : (p q : ℕ → Bool) (from count : ℕ) → ((i : ℕ) → from ≤ i → i < from + count → p i ≡ q i) → count_by p (range_with_len from count) ≡ count_by q (range_with_len from count)
count_range p q from zero h = refl
count_range p q from (suc count) h =
    sum_by-cons (λ y. cond (p y) 1 0) from (range_with_len (from + 1) count)
    ∙ ap₂ (λ b n. cond b 1 0 + n) (h from (omega arith) (omega arith)) (count_range p q (from + 1) count (λ i l m. h i (omega arith) (omega arith)))
    ∙ sym (sum_by-cons (λ y. cond (q y) 1 0) from (range_with_len (from + 1) count))

count_none : (from count : ℕ) → count_by (λ i. false) (range_with_len from count) ≡ 0
count_none from zero = refl
count_none from (suc count) = sum_by-cons (λ y. cond false 1 0) from (range_with_len (from + 1) count) ∙ omega (arith, count_none (from + 1) count)

-- the chosen elements of which a test holds
count_chosen : {X : Type 0} (f : ℕ → X) (v : ℕ → Bool) (t : X → Bool) (xs : List ℕ) → count_by t (map f (filter v xs)) ≡ count_by (λ j. v j && t (f j)) xs
count_chosen f v t [] = refl
count_chosen {X} f v t (x ∷ xs) = step (v x) (count_chosen f v t xs) ∙ sym (sum_by-cons (λ j. cond (v j && t (f j)) 1 0) x xs)
  where
    step : (b : Bool) → count_by t (map f (filter v xs)) ≡ count_by (λ j. v j && t (f j)) xs → count_by t (map f (cond b (x ∷ filter v xs) (filter v xs))) ≡ cond (b && t (f x)) 1 0 + count_by (λ j. v j && t (f j)) xs
    step true ih = sum_by-cons (λ y. cond (t y) 1 0) (f x) (map f (filter v xs)) ∙ ap (λ n. cond (t (f x)) 1 0 + n) ih
    step false ih = ih ∙ omega arith

-- ---- one row at another
and_true : (p : Bool) → (p && true) ≡ p
and_true true = refl
and_true false = refl

and_none : (p q : Bool) → (p && (q && false)) ≡ false
and_none true true = refl
and_none true false = refl
and_none false q = refl

same_either : (x y : List Value) → same_row x y ≡ same_row y x
same_either x y = same_truth (same_row x y) (same_row y x)
    (λ e. subst (λ (z : List Value). same_row z x ≡ true) (same_row-tests.equal x y e) (same_row-tests.itself x))
    (λ e. subst (λ (z : List Value). same_row z y ≡ true) (same_row-tests.equal y x e) (same_row-tests.itself y))

pub tie_is : (order : List Key) (x y : List Value) → is_eq (row_cmp order y x) ≡ same_row x y
tie_is order x y = same_truth (is_eq (row_cmp order y x)) (same_row x y)
    (λ e. subst (λ (z : List Value). same_row x z ≡ true) (sym (row_cmp-ties order y x (is_eq-tie (row_cmp order y x) e))) (same_row-tests.itself x))
    (λ e. subst (λ (z : List Value). is_eq (row_cmp order z x) ≡ true) (same_row-tests.equal x y e) (ap is_eq (tied_itself (row_cmp-total order) x)))

-- a row that comes before is not equal, and equal rows are of one partition
apart : (valid same tie : Bool) (o : Ordering) → (is_eq o ≡ true → same ≡ true) → cond (valid && (same && (is_lt o || (is_eq o && tie)))) 1 0 ≡ cond (valid && (same && is_lt o)) 1 0 + cond (valid && (is_eq o && tie)) 1 0
apart false same tie o h = refl
apart true true tie Less h = refl
apart true true true Equal h = refl
apart true true false Equal h = refl
apart true true tie Greater h = refl
apart true false tie Less h = refl
apart true false tie Equal h = absurd (true≢false (sym (h refl)))
apart true false tie Greater h = refl

module _ (partition : List ℕ) (order : List Key) (f : ℕ → List Value) (v : ℕ → Bool) where
  abbrev all : ℕ → List (List Value)
  all n = map f (filter v (range_with_len 0 n))

  -- row j counts at row i
  abbrev at_row : ℕ → ℕ → Bool
  at_row i j = v j && comes_to partition order (f j) (f i) (nat_le j i)

  abbrev before_at : ℕ → ℕ → Bool
  before_at i j = v j && before_in partition order (f i) (f j)

  abbrev equal_at : ℕ → ℕ → Bool
  equal_at i j = v j && (same_row (f i) (f j) && nat_le j i)

  at_split : (i j : ℕ) → cond (at_row i j) 1 0 ≡ cond (before_at i j) 1 0 + cond (equal_at i j) 1 0
  at_split i j =
      let o : Ordering = row_cmp order (f j) (f i) in
      let e : is_eq o ≡ same_row (f i) (f j) = tie_is order (f i) (f j) in
      apart (v j) (same_row (cut partition (f j)) (cut partition (f i))) (nat_le j i) o
      (λ t. subst (λ (z : List Value). same_row (cut partition z) (cut partition (f i)) ≡ true) (same_row-tests.equal (f i) (f j) (sym e ∙ t)) (same_row-tests.itself (cut partition (f i))))
      ∙ ap₂ (λ a b. cond (v j && (a && is_lt o)) 1 0 + cond (v j && (b && nat_le j i)) 1 0) (same_either (cut partition (f j)) (cut partition (f i))) e

  equal_count : (i rest : ℕ) → v i ≡ true → count_by (equal_at i) (range_with_len 0 (i + (1 + rest))) ≡ 1 + times same_row (f i) (all i)
  equal_count i rest h =
      let z : 0 + i ≡ i = omega arith in
      let parts : count_by (equal_at i) (range_with_len 0 (i + (1 + rest))) ≡ count_by (equal_at i) (range_with_len 0 i) + count_by (equal_at i) (range_with_len i (1 + rest))
      = ap (count_by (equal_at i)) (range-add 0 i (1 + rest)) ∙ sum_by-append (λ j. cond (equal_at i j) 1 0) (range_with_len 0 i) (range_with_len (0 + i) (1 + rest)) ∙ ap (λ k. count_by (equal_at i) (range_with_len 0 i) + count_by (equal_at i) (range_with_len k (1 + rest))) z in
      let low : count_by (equal_at i) (range_with_len 0 i) ≡ times same_row (f i) (all i)
      = count_range (equal_at i) (λ j. v j && same_row (f i) (f j)) 0 i (λ j l m. ap (λ b. v j && (same_row (f i) (f j) && b)) (le-leb j i (omega arith)) ∙ ap (λ b. v j && b) (and_true (same_row (f i) (f j))))
      ∙ sym (count_chosen f v (same_row (f i)) (range_with_len 0 i)) in
      let here : equal_at i i ≡ true = ap₂ (λ a b. a && (b && nat_le i i)) h (same_row-tests.itself (f i)) ∙ le-leb i i (omega arith) in
      let high : count_by (equal_at i) (range_with_len (i + 1) rest) ≡ 0
      = count_range (equal_at i) (λ j. false) (i + 1) rest (λ j l m. ap (λ b. v j && (same_row (f i) (f j) && b)) (lt-leb j i (omega arith)) ∙ and_none (v j) (same_row (f i) (f j))) ∙ count_none (i + 1) rest in
      let one : 1 + rest ≡ suc rest = omega arith in
      omega (arith, parts, low, ap (λ k. count_by (equal_at i) (range_with_len i k)) one ∙ sum_by-cons (λ j. cond (equal_at i j) 1 0) i (range_with_len (i + 1) rest), ap {B = ℕ} (λ b. cond b 1 0) here, high)

  -- the rows that count at a row make its place
  pub place_is : (i rest : ℕ) → v i ≡ true → count_by (at_row i) (range_with_len 0 (i + (1 + rest))) ≡ place_of partition order (all (i + (1 + rest))) (all i) (f i)
  place_is i rest h =
      omega (
        arith,
        count_both (at_row i) (before_at i) (equal_at i) (at_split i) (range_with_len 0 (i + (1 + rest))),
        sym (count_chosen f v (before_in partition order (f i)) (range_with_len 0 (i + (1 + rest)))),
        equal_count i rest h,
      )

  -- the rows from a place on, each numbered
  module _ (n : ℕ) (g : ℕ → List Value) (is : (i : ℕ) → i < n → g i ≡ f i ++ value.Int (count_by (at_row i) (range_with_len 0 n)) ∷ []) where
    pub numbered_from : (from count : ℕ) → from + count ≡ n → map g (filter v (range_with_len from count)) ≡ number_from partition order (all n) (all from) (map f (filter v (range_with_len from count)))
    numbered_from from zero e = refl
    numbered_from from (suc count) e = step (v from) refl (numbered_from (from + 1) count (omega (arith, e)))
      where
        next : (b : Bool) → v from ≡ b → all (from + 1) ≡ all from ++ cond b (f from ∷ []) []
        next b h =
            let z : 0 + from ≡ from = omega arith in
            rows_add f v 0 from 1 ∙ ap (λ k. all from ++ map f (filter v (range_with_len k 1))) z ∙ ap (λ (xs : List (List Value)). all from ++ xs) (one b h)
          where
            one : (b : Bool) → v from ≡ b → map f (cond (v from) (from ∷ []) []) ≡ cond b (f from ∷ []) []
            one true h = ap (λ b. map f (cond b (from ∷ []) [])) h
            one false h = ap (λ b. map f (cond b (from ∷ []) [])) h

        step : (b : Bool) → v from ≡ b → map g (filter v (range_with_len (from + 1) count)) ≡ number_from partition order (all n) (all (from + 1)) (map f (filter v (range_with_len (from + 1) count)))
            → map g (cond b (from ∷ filter v (range_with_len (from + 1) count)) (filter v (range_with_len (from + 1) count)))
            ≡ number_from partition order (all n) (all from) (map f (cond b (from ∷ filter v (range_with_len (from + 1) count)) (filter v (range_with_len (from + 1) count))))
        step true h ih =
            let whole : from + (1 + count) ≡ n = omega (arith, e) in
            ap₂ (λ (x : List Value) (xs : List (List Value)). x ∷ xs)
            (is from (omega (arith, e)) ∙ ap (λ m. f from ++ value.Int m ∷ [])
            (subst (λ k. count_by (at_row from) (range_with_len 0 k) ≡ place_of partition order (all k) (all from) (f from)) whole (place_is from count h)))
            (ih ∙ ap (λ (xs : List (List Value)). number_from partition order (all n) xs (map f (filter v (range_with_len (from + 1) count)))) (next true h))
        step false h ih = ih ∙ ap (λ (xs : List (List Value)). number_from partition order (all n) xs (map f (filter v (range_with_len (from + 1) count)))) (next false h ∙ append-nil (all from))

-- ---- the numbered list
module _ (inputs : InputWords) (words : List ℕ) (ends : Ends words) (list : PaddedList) (shaped : IsShaped list) (few : list.len < 2 ^ 32) (partition : List ℕ) (order : List Key) (fits : KeysFit (length list.kinds) partition order) where
  pub count_row : (counters : List (List ℕ)) (i : ℕ) → row_at words (with_counts list counters) i ≡ row_at words list i ++ value.Int (number_at words (counts_column counters) i) ∷ []
  count_row counters i =
      let planes : List (List ℕ) = counts_column counters in
      cells_append words i list.kinds (kind.Int ∷ []) list.planes planes shaped.planes
      ∙ ap (λ (ps : List (List ℕ)). row_at words list i ++ value.Int (number_at words ps i) ∷ []) (take_all 32 planes (omega (arith, length-map-range_with_len (λ p. map (λ (counter : List ℕ). slice_index (count_planes counter) p) counters) 0 32)))

  pub number_list : {out : PaddedList} → Yields inputs words (number_gates list partition order) out → valid_rows words out ≡ number_rows partition order (valid_rows words list)
  number_list {out} y =
      let a = yields-then _ _ y in
      let b = yields-then _ _ a.rest in
      ap (valid_rows words) (yields-gives _ b.rest)
      ∙ numbered_from partition order (row_at words list) (is_valid words list) list.len (row_at words (with_counts list b.x))
      (λ i h. count_row b.x i ∙ ap (λ n. row_at words list i ++ value.Int n ∷ []) (counted inputs words ends list shaped partition order fits a.x a.first few b.first i h))
      0 list.len (omega arith)

pub number_means : NumberMeans
number_means inputs words ends list shaped few partition order fits out y = number_list inputs words ends list shaped few partition order fits y
