-- The rows whose place is within a limit are the first of the sorted list.
use Rattle.std.proofs.Common.{◌≡◌, ℕ, zero, suc, ◌+◌, ◌-◌, ◌<◌, ◌≤◌, Bool, true, false, ◌&&◌, ◌||◌, cond, List, [], ◌∷◌, ◌++◌, length, map, take, count_by, refl, sym, ap, ap₂, ◌∙◌, subst, arith, append_assoc, true≢false, Ordering, Less, Equal, Greater, ⊎_elim, length-append}
use Rattle.std.specs.List.{range_with_len, AllByRecursion}
use Rattle.std.specs.Ordering.{nat_cmp, is_lt, is_eq, is_gt, is_le, ordering_reverse, MatchOrdering}
use Rattle.std.proofs.lemmas.Bool.{cases_lt}
use Rattle.std.proofs.lemmas.Cmp.{upto, ranked, tied_itself}
use Rattle.std.proofs.lemmas.List.Sums.{sum_by-cons, sum_by-append}
use Rattle.std.proofs.lemmas.List.{get_or_at, get_or_append_left}
use Rattle.pdn_base.specs.declared.value.Value.{Value}
use Rattle.pdn_base.specs.declared.value.Value.TheVariants as value
use Rattle.pdn_base.specs.declared.order.Key.{Key}
use Rattle.pdn_base.specs.Bags.{times}
use Rattle.pdn_base.specs.Conditions.{meets}
use Rattle.pdn_base.specs.Totals.{row_cmp-total}
use Rattle.pdn_base.specs.Values.{cell, cut, same_row, row_cmp, value_cmp}
use Rattle.pdn_base.specs.Operators.{SameRows, filter_rows, project_rows, before_in, place_of, number_from, number_rows, placed, listed}
use Rattle.pdn_base.proofs.BagLaws.{SameBag-from_perm}
use Rattle.pdn_base.proofs.Listing.{listed-rows}
use Rattle.pdn_base.proofs.OperatorLaws.{filter_bag, project_bag, number_bag}
use Rattle.pdn_obl_rank.specs.Tops.{within}
use Rattle.pdn_obl_rank.proofs.PlaceLaws.{tie_is}

module _ (order : List Key) where
  -- y is not after z
  abbrev pub Upto : List Value → List Value → Type 0
  Upto y z = is_gt (row_cmp order y z) ≡ false

  abbrev pub Sorted : List (List Value) → Type 0
  Sorted [] = Unit {0}
  Sorted (x ∷ xs) = AllByRecursion (Upto x) xs × Sorted xs

  back : (o p : Ordering) → o ≡ ordering_reverse p → is_lt p ≡ is_gt o
  back o Less e = ap is_gt (sym e)
  back o Equal e = ap is_gt (sym e)
  back o Greater e = ap is_gt (sym e)

  not_less : (y z : List Value) → Upto y z → is_lt (row_cmp order z y) ≡ false
  not_less y z h = back (row_cmp order y z) (row_cmp order z y) ((row_cmp-total order).antisymm y z) ∙ h

  one_way : (o p : Ordering) → o ≡ ordering_reverse p → is_gt o ≡ true → is_gt p ≡ false
  one_way o Less e h = refl
  one_way o Equal e h = refl
  one_way o Greater e h = absurd (true≢false (sym h ∙ ap is_gt e))

  all_placed : (P : List Value → Type 0) (x : List Value) (xs : List (List Value)) → P x → AllByRecursion P xs → AllByRecursion P (placed order x xs)
  all_placed P x [] h k = (h, tt)
  all_placed P x (y ∷ ys) h k = step (is_gt (row_cmp order x y)) (all_placed P x ys h k.1)
    where
      step : (b : Bool) → AllByRecursion P (placed order x ys) → AllByRecursion P (cond b (y ∷ placed order x ys) (x ∷ y ∷ ys))
      step true rest = (k.0, rest)
      step false rest = (h, k)

  all_upto : (x y : List Value) (ys : List (List Value)) → Upto x y → AllByRecursion (Upto y) ys → AllByRecursion (Upto x) ys
  all_upto x y [] e h = tt
  all_upto x y (z ∷ zs) e h = (upto (row_cmp-total order) x y z e h.0, all_upto x y zs e h.1)

  placed_sorted : (x : List Value) (xs : List (List Value)) → Sorted xs → Sorted (placed order x xs)
  placed_sorted x [] s = (tt, tt)
  placed_sorted x (y ∷ ys) s = step (is_gt (row_cmp order x y)) refl (placed_sorted x ys s.1)
    where
      step : (b : Bool) → is_gt (row_cmp order x y) ≡ b → Sorted (placed order x ys) → Sorted (cond b (y ∷ placed order x ys) (x ∷ y ∷ ys))
      step true e rest = (all_placed (Upto y) x ys (one_way (row_cmp order x y) (row_cmp order y x) ((row_cmp-total order).antisymm x y) e) s.0, rest)
      step false e rest = ((e, all_upto x y ys e s.0), s)

  listed_sorted : (xs : List (List Value)) → Sorted (listed order xs)
  listed_sorted [] = tt
  listed_sorted (x ∷ xs) = placed_sorted x (listed order xs) (listed_sorted xs)

  -- ---- places in a sorted list
  itself : (x : List Value) → Upto x x
  itself x = ap is_gt (tied_itself (row_cmp-total order) x)

  one_of : (o : Ordering) → is_gt o ≡ false → cond (is_lt o) 1 0 + cond (is_eq o) 1 0 ≡ 1
  one_of Less h = refl
  one_of Equal h = refl
  one_of Greater h = absurd (true≢false h)

  earlier_count : (x : List Value) (ys : List (List Value)) → AllByRecursion (λ y. Upto y x) ys → count_by (before_in [] order x) ys + times same_row x ys ≡ length ys
  earlier_count x [] h = refl
  earlier_count x (y ∷ ys) h =
      let here : cond (is_lt (row_cmp order y x)) 1 0 + cond (same_row x y) 1 0 ≡ 1 = ap (λ b. cond (is_lt (row_cmp order y x)) 1 0 + cond b 1 0) (sym (tie_is order x y)) ∙ one_of (row_cmp order y x) h.0 in
      omega (arith, sum_by-cons (λ z. cond (before_in [] order x z) 1 0) y ys, sum_by-cons (λ z. cond (same_row x z) 1 0) y ys, here, earlier_count x ys h.1)

  later_count : (x : List Value) (ys : List (List Value)) → AllByRecursion (Upto x) ys → count_by (before_in [] order x) ys ≡ 0
  later_count x [] h = refl
  later_count x (y ∷ ys) h =
      let here : ◌≡◌ {A = ℕ} (cond (is_lt (row_cmp order y x)) 1 0) 0 = ap {B = ℕ} (λ b. cond b 1 0) (not_less x y h.0) in
      omega (arith, sum_by-cons (λ z. cond (before_in [] order x z) 1 0) y ys, here, later_count x ys h.1)

  place_sorted : (earlier rest : List (List Value)) (x : List Value) → AllByRecursion (λ y. Upto y x) earlier → AllByRecursion (Upto x) rest → place_of [] order (earlier ++ x ∷ rest) earlier x ≡ 1 + length earlier
  place_sorted earlier rest x h k =
      omega (arith, sum_by-append (λ z. cond (before_in [] order x z) 1 0) earlier (x ∷ rest), earlier_count x earlier h, later_count x (x ∷ rest) (itself x, k))

  -- these rows with the numbers from k + 1 on
  abbrev pub numbers_from : ℕ → List (List Value) → List (List Value)
  numbers_from k [] = []
  numbers_from k (x ∷ xs) = (x ++ value.Int (1 + k) ∷ []) ∷ numbers_from (k + 1) xs

  abbrev AllUpto : List (List Value) → List (List Value) → Type 0
  AllUpto earlier rest = AllByRecursion (λ y. AllByRecursion (Upto y) rest) earlier

  heads : (x : List Value) (earlier rest : List (List Value)) → AllUpto earlier (x ∷ rest) → AllByRecursion (λ y. Upto y x) earlier
  heads x [] rest h = tt
  heads x (y ∷ ys) rest h = let a = h.0 in (a.0, heads x ys rest h.1)

  tails : (x : List Value) (earlier rest : List (List Value)) → AllUpto earlier (x ∷ rest) → AllByRecursion (Upto x) rest → AllUpto (earlier ++ x ∷ []) rest
  tails x [] rest h k = (k, tt)
  tails x (y ∷ ys) rest h k = let a = h.0 in (a.1, tails x ys rest h.1 k)

  numbers_sorted : (all earlier rest : List (List Value)) → all ≡ earlier ++ rest → AllUpto earlier rest → Sorted rest → number_from [] order all earlier rest ≡ numbers_from (length earlier) rest
  numbers_sorted all earlier [] e h s = refl
  numbers_sorted all earlier (x ∷ rest) e h s =
      let next : length (earlier ++ x ∷ []) ≡ length earlier + 1 = omega (arith, length-append earlier (x ∷ [])) in
      ap₂ (λ n (xs : List (List Value)). (x ++ value.Int n ∷ []) ∷ xs)
      (ap (λ (ys : List (List Value)). place_of [] order ys earlier x) e ∙ place_sorted earlier rest x (heads x earlier rest h) s.0)
      (numbers_sorted all (earlier ++ x ∷ []) rest (e ∙ sym (append_assoc earlier (x ∷ []) rest)) (tails x earlier rest h s.0) s.1 ∙ ap (λ n. numbers_from n rest) next)

-- ---- those within a limit
le_true : (m n : ℕ) → m ≤ n → is_le (nat_cmp m n) ≡ true
le_true m n h = step (nat_cmp m n) (ranked m n (nat_cmp m n) refl)
  where
    step : (o : Ordering) → MatchOrdering o (m < n) (m ≡ n) (n < m) → is_le o ≡ true
    step Less x = refl
    step Equal x = refl
    step Greater x = absurd (omega (arith, h, x))

le_false : (m n : ℕ) → n < m → is_le (nat_cmp m n) ≡ false
le_false m n h = step (nat_cmp m n) (ranked m n (nat_cmp m n) refl)
  where
    step : (o : Ordering) → MatchOrdering o (m < n) (m ≡ n) (n < m) → is_le o ≡ false
    step Less x = absurd (omega (arith, h, x))
    step Equal x = absurd (omega (arith, h, x))
    step Greater x = refl

only : (b : Bool) → ((b || false) && true) ≡ b
only true = refl
only false = refl

-- a row's last number is within the limit
within_is : (n limit : ℕ) (x : List Value) (m : ℕ) → length x ≡ n → meets (within n limit) (x ++ value.Int m ∷ []) ≡ is_le (nat_cmp m limit)
within_is n limit x m l =
    let last : cell (x ++ value.Int m ∷ []) n ≡ value.Int m = get_or_at x (value.Int m) [] (value.Int 0) n l in
    ap (λ v. (is_le (value_cmp v (value.Int limit)) || false) && true) last ∙ only (is_le (nat_cmp m limit))

cut_from : (from : ℕ) (whole x : List Value) → ((k : ℕ) → k < length x → cell whole (from + k) ≡ cell x k) → cut (range_with_len from (length x)) whole ≡ x
cut_from from whole [] h = refl
cut_from from whole (v ∷ vs) h =
    let z : from ≡ from + 0 = omega arith in
    ap₂ (λ y ys. y ∷ ys) (ap (cell whole) z ∙ h 0 (omega arith)) (cut_from (from + 1) whole vs (λ k l. let e : from + 1 + k ≡ from + suc k = omega arith in ap (cell whole) e ∙ h (suc k) (omega arith)))

-- a row without its new column
pub cut_back : (n : ℕ) (x rest : List Value) → length x ≡ n → cut (range_with_len 0 n) (x ++ rest) ≡ x
cut_back n x rest l =
    ap (λ k. cut (range_with_len 0 k) (x ++ rest)) (sym l)
    ∙ cut_from 0 (x ++ rest) x (λ k h. let z : 0 + k ≡ k = omega arith in ap (cell (x ++ rest)) z ∙ get_or_append_left x rest (value.Int 0) k h)

abbrev pub AllWide : ℕ → List (List Value) → Type 0
AllWide n xs = AllByRecursion (λ x. length x ≡ n) xs

module _ (order : List Key) (n limit : ℕ) where
  abbrev kept : List (List Value) → List (List Value)
  kept rows = project_rows (range_with_len 0 n) (filter_rows (within n limit) rows)

  first_rows : (k : ℕ) (rows : List (List Value)) → AllWide n rows → kept (numbers_from order k rows) ≡ take (limit - k) rows
  first_rows k [] w = take_none (limit - k)
    where
      take_none : (m : ℕ) → [] ≡ take {A = List Value} m []
      take_none zero = refl
      take_none (suc m) = refl
  first_rows k (x ∷ xs) w = step (is_le (nat_cmp (1 + k) limit)) refl (within_is n limit x (1 + k) w.0) (first_rows (k + 1) xs w.1)
    where
      step : (b : Bool) → is_le (nat_cmp (1 + k) limit) ≡ b → meets (within n limit) (x ++ value.Int (1 + k) ∷ []) ≡ is_le (nat_cmp (1 + k) limit) → kept (numbers_from order (k + 1) xs) ≡ take (limit - (k + 1)) xs
          → kept (numbers_from order k (x ∷ xs)) ≡ take (limit - k) (x ∷ xs)
      step true e m ih = ⊎_elim
          (λ h. absurd (true≢false (sym e ∙ le_false (1 + k) limit (omega (arith, h)))))
          (λ h.
          let left : limit - k ≡ suc (limit - (k + 1)) = omega (arith, h) in
          ap (λ b. map (cut (range_with_len 0 n)) (cond b ((x ++ value.Int (1 + k) ∷ []) ∷ filter_rows (within n limit) (numbers_from order (k + 1) xs)) (filter_rows (within n limit) (numbers_from order (k + 1) xs)))) (m ∙ e)
          ∙ ap₂ (λ y ys. y ∷ ys) (cut_back n x (value.Int (1 + k) ∷ []) w.0) ih
          ∙ sym (ap (λ j. take j (x ∷ xs)) left))
          (cases_lt limit (1 + k))
      step false e m ih = ⊎_elim
          (λ h.
          let none : limit - k ≡ 0 = omega (arith, h) in
          let after : limit - (k + 1) ≡ 0 = omega (arith, h) in
          ap (λ b. map (cut (range_with_len 0 n)) (cond b ((x ++ value.Int (1 + k) ∷ []) ∷ filter_rows (within n limit) (numbers_from order (k + 1) xs)) (filter_rows (within n limit) (numbers_from order (k + 1) xs)))) (m ∙ e)
          ∙ ih ∙ ap (λ j. take j xs) after
          ∙ sym (ap (λ j. take j (x ∷ xs)) none))
          (λ h. absurd (true≢false (sym (le_true (1 + k) limit (omega (arith, h))) ∙ e)))
          (cases_lt limit (1 + k))

  pub all_wide : (P : List Value → Type 0) (xs : List (List Value)) → AllByRecursion P xs → AllByRecursion P (listed order xs)
  all_wide P [] h = tt
  all_wide P (x ∷ xs) h = all_placed order P x (listed order xs) h.0 (all_wide P xs h.1)

  -- the rows within the limit, whatever their order in the list
  pub first_bag : (rows : List (List Value)) → AllWide n rows → SameRows (kept (number_rows [] order rows)) (take limit (listed order rows))
  first_bag rows w =
      let sorted : List (List Value) = listed order rows in
      let same : SameRows rows sorted = SameBag-from_perm same_row (listed-rows order rows) in
      let numbered : number_rows [] order sorted ≡ numbers_from order 0 sorted = numbers_sorted order sorted [] sorted refl tt (listed_sorted order rows) in
      let all_of_it : limit - 0 ≡ limit = omega arith in
      subst (λ (ys : List (List Value)). SameRows (kept (number_rows [] order rows)) ys)
      (ap kept numbered ∙ first_rows 0 sorted (all_wide (λ x. length x ≡ n) rows w) ∙ ap (λ k. take k sorted) all_of_it)
      (project_bag (range_with_len 0 n) _ _ (filter_bag (within n limit) _ _ (number_bag [] order rows sorted same)))
