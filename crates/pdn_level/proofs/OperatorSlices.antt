-- A slice of an operator's rows is the operator over the slice.
use Rattle.std.proofs.Common.{◌≡◌, ℕ, suc, zero, ◌+◌, ◌<◌, Bool, true, false, not, ◌&&◌, cond, List, [], ◌∷◌, ◌++◌, map, filter, length, flat_map, get_or, sum_by, count_by, sym, refl, ap, ap₂, ◌∙◌, arith, ⊎_elim, ◌*◌, zero-mul, mul-one, mul-add, mul-zero, zero-add, Option, append-nil, true≢false}
use Rattle.std.specs.List.{AllByRecursion}
use Rattle.std.proofs.lemmas.Bool.{cases_Bool}
use Rattle.std.proofs.lemmas.List.Elements.{filter-append}
use Rattle.std.proofs.lemmas.List.Sums.{sum_by-append, sum_by-cons}
use Rattle.pdn_base.specs.declared.value.Value.{Value}
use Rattle.pdn_base.specs.declared.value.Value.TheVariants as value
use Rattle.pdn_base.specs.declared.order.Key.{Key}
use Rattle.pdn_base.specs.declared.cond.Cmp.{Cmp}
use Rattle.pdn_base.specs.Values.{cell, cut, same_row}
use Rattle.pdn_base.specs.Conditions.{meets}
use Rattle.pdn_base.specs.Bags.{pairs, times, distinct, SameBag, TestsEquality}
use Rattle.pdn_base.specs.Operators.{filter_rows, project_rows, join_rows, joined, group_rows, distinct_rows, number_rows, number_from, numbered_row, place_of, before_in, counted, allows}
use Rattle.pdn_base.proofs.BagLaws.{filter-swap, times-filter}
use Rattle.pdn_base.proofs.RowLaws.{same_row-tests}
use Rattle.pdn_tree.specs.Meaning.{Rows}
use Rattle.pdn_tree.specs.Columns.{Wide, Has, place_in}
use Rattle.pdn_level.specs.Cutting.{same_value, at}
use Rattle.pdn_level.proofs.Lists.{cell-left, cell-right, cell-cut-at, cell-cut, filter-map, filter-agree, filter-filter, filter-none, wide-project, all_on, all_filter, passes}

pub slice_filter : (s : ℕ) (v : Value) (cs : List (List Cmp)) (rows : Rows) → at s v (filter_rows cs rows) ≡ filter_rows cs (at s v rows)
slice_filter s v cs rows = filter-swap (λ row. same_value v (cell row s)) (meets cs) rows

pub slice_project : (s : ℕ) (v : Value) (columns : List ℕ) (rows : Rows) → s < length columns → at s v (project_rows columns rows) ≡ project_rows columns (at (get_or columns s 0) v rows)
slice_project s v columns rows h = filter-map (λ row. same_value v (cell row s)) (cut columns) rows
    ∙ ap (map (cut columns)) (filter-agree _ _ (λ row. ap (same_value v) (cell-cut-at columns s h row)) rows)

-- pairs of filtered lists
pairs_of_one : (w : ℕ) (q : List Value → Bool) (r : List Value → Bool) (a : List Value) (b : Bool) → ((y : List Value) → r (a ++ y) ≡ (b && q y)) → (ys : Rows) → filter r (map (joined a) ys) ≡ cond b (map (joined a) (filter q ys)) []
pairs_of_one w q r a true h ys = filter-map r (joined a) ys ∙ ap (map (joined a)) (filter-agree _ _ h ys)
pairs_of_one w q r a false h ys = filter-map r (joined a) ys ∙ ap (map (joined a)) (filter-none _ h ys)

pub pairs-filter : (w : ℕ) (p q r : List Value → Bool) → ((x y : List Value) → length x ≡ w → r (x ++ y) ≡ (p x && q y)) → (xs ys : Rows) → Wide w xs → filter r (pairs joined xs ys) ≡ pairs joined (filter p xs) (filter q ys)
pairs-filter w p q r h [] ys wide = refl
pairs-filter w p q r h (x ∷ xs) ys wide = filter-append r (map (joined x) ys) (pairs joined xs ys)
    ∙ ap₂ (λ a b. a ++ b) (pairs_of_one w q r x (p x) (λ y. h x y wide.0) ys) (pairs-filter w p q r h xs ys wide.1)
    ∙ join_one (p x) x
  where
    join_one : (b : Bool) (x : List Value) → cond b (map (joined x) (filter q ys)) [] ++ pairs joined (filter p xs) (filter q ys) ≡ pairs joined (cond b (x ∷ filter p xs) (filter p xs)) (filter q ys)
    join_one true x = refl
    join_one false x = refl

-- where the join's condition makes two columns equal, both sides are sliced
linked_row : (v a b c : Value) (meets : Bool) → (meets ≡ true → a ≡ b) → (meets ≡ true → c ≡ a) → (meets && same_value v c) ≡ ((same_value v a && same_value v b) && meets)
linked_row v a b c true link e = rw (e refl, ← link refl) (and_self (same_value v a))
  where
    and_self : (x : Bool) → x ≡ ((x && x) && true)
    and_self true = refl
    and_self false = refl
linked_row v a b c false link e = and_false (same_value v a) (same_value v b)
  where
    and_false : (x y : Bool) → false ≡ ((x && y) && false)
    and_false true true = refl
    and_false true false = refl
    and_false false y = refl

pub slice_join : (w l r s : ℕ) (v : Value) (on : List (List Cmp)) (L R : Rows) → Wide w L → l < w → ((row : List Value) → meets on row ≡ true → cell row l ≡ cell row (w + r)) → ((row : List Value) → meets on row ≡ true → cell row s ≡ cell row l)
    → at s v (join_rows on L R) ≡ join_rows on (at l v L) (at r v R)
slice_join w l r s v on L R wide here link side =
    filter-filter (λ row. same_value v (cell row s)) (meets on) (pairs joined L R)
    ∙ filter-agree _ _ (λ row. linked_row v (cell row l) (cell row (w + r)) (cell row s) (meets on row) (link row) (side row)) (pairs joined L R)
    ∙ sym (filter-filter (meets on) (λ row. same_value v (cell row l) && same_value v (cell row (w + r))) (pairs joined L R))
    ∙ ap (filter_rows on) (pairs-filter w (λ x. same_value v (cell x l)) (λ y. same_value v (cell y r)) (λ row. same_value v (cell row l) && same_value v (cell row (w + r)))
    (λ x y long. ap₂ (λ a b. same_value v a && same_value v b) (cell-left w x y long l here) (cell-right w x y long r)) L R wide)

-- distinct
pub filter-distinct : {X : Type 0} {same : X → X → Bool} → TestsEquality same → (p : X → Bool) (xs : List X) → filter p (distinct same xs) ≡ distinct same (filter p xs)
filter-distinct t p [] = refl
filter-distinct {X} {same} t p (x ∷ xs) = by (p x) refl (filter-distinct t p xs)
  where
    other : X → Bool
    other y = not (same x y)

    lost : p x ≡ false → (y : X) → (other y && p y) ≡ p y
    lost e y = ⊎_elim
        (λ hit. rw hit (sym (ap p (sym (t.equal x y hit)) ∙ e)))
        (λ miss. rw miss)
        (cases_Bool (same x y))

    by : (b : Bool) → p x ≡ b → filter p (distinct same xs) ≡ distinct same (filter p xs) → filter p (distinct same (x ∷ xs)) ≡ distinct same (filter p (x ∷ xs))
    by true e h = rw e (ap (λ ys. x ∷ ys) (filter-swap p (λ y. not (same x y)) (distinct same xs) ∙ ap (filter (λ y. not (same x y))) h))
    by false e h = rw e (filter-filter p (λ y. not (same x y)) (distinct same xs) ∙ filter-agree _ _ (lost e) (distinct same xs) ∙ h)

-- all slices together
times-flat_map : {X Y : Type 0} (same : Y → Y → Bool) (f : X → List Y) (y : Y) (xs : List X) → times same y (flat_map f xs) ≡ sum_by (λ x. times same y (f x)) xs
times-flat_map same f y [] = refl
times-flat_map same f y (x ∷ xs) = omega (arith, sum_by-append (λ z. cond (same y z) 1 0) (f x) (flat_map f xs), sum_by-cons (λ z. times same y (f z)) x xs, times-flat_map same f y xs)

chosen_one : (b : Bool) (n s m : ℕ) → s ≡ n * m → cond b n 0 + s ≡ n * (cond b 1 0 + m)
chosen_one true n s m h = omega (arith, h, mul-add n 1 m, mul-one n)
chosen_one false n s m h = zero-add s ∙ h ∙ ap (λ k. n * k) (sym (zero-add m))

chosen : {X : Type 0} (p : X → Bool) (n : ℕ) (xs : List X) → sum_by (λ x. cond (p x) n 0) xs ≡ n * count_by p xs
chosen p n [] = sym (mul-zero n)
chosen p n (x ∷ xs) = sum_by-cons (λ y. cond (p y) n 0) x xs ∙ chosen_one (p x) n _ _ (chosen p n xs) ∙ ap (λ m. n * m) (sym (sum_by-cons (λ y. cond (p y) 1 0) x xs))

sum_agree : {X : Type 0} (f g : X → ℕ) → ((x : X) → f x ≡ g x) → (xs : List X) → sum_by f xs ≡ sum_by g xs
sum_agree f g h [] = refl
sum_agree f g h (x ∷ xs) = omega (arith, sum_by-cons f x xs, sum_by-cons g x xs, h x, sum_agree f g h xs)

-- where each row's value stands once among vs, the rows are as a bag the sum of their slices
pub slices_sum : (s : ℕ) (vs : List Value) (rows : Rows) → ((row : List Value) → 0 < times same_row row rows → count_by (λ v. same_value v (cell row s)) vs ≡ 1)
    → SameBag same_row rows (flat_map (λ v. at s v rows) vs)
slices_sum s vs rows once = record {
  times = λ row. sym (
      times-flat_map same_row (λ v. at s v rows) row vs
      ∙ sum_agree _ _ (λ v. times-filter same_row-tests (λ r. same_value v (cell r s)) row rows) vs
      ∙ chosen (λ v. same_value v (cell row s)) (times same_row row rows) vs
      ∙ by_times (times same_row row rows) (count_by (λ v. same_value v (cell row s)) vs) (once row));
}
  where
    by_times : (n m : ℕ) → (0 < n → m ≡ 1) → n * m ≡ n
    by_times zero m h = zero-mul m
    by_times (suc n) m h = ap (λ k. suc n * k) (h (omega arith)) ∙ mul-one (suc n)

-- what agrees on the elements that are there
filter_on : {X : Type 0} (p q : X → Bool) (xs : List X) → AllByRecursion (λ x. p x ≡ q x) xs → filter p xs ≡ filter q xs
filter_on p q [] h = refl
filter_on p q (x ∷ xs) h = ap₂ (λ b ys. cond b (x ∷ ys) ys) h.0 (filter_on p q xs h.1)

map_on : {X Y : Type 0} (f g : X → Y) (xs : List X) → AllByRecursion (λ x. f x ≡ g x) xs → map f xs ≡ map g xs
map_on f g [] h = refl
map_on f g (x ∷ xs) h = ap₂ (λ y ys. y ∷ ys) h.0 (map_on f g xs h.1)

pub all_distinct : {X : Type 0} (P : X → Type 0) (same : X → X → Bool) (xs : List X) → AllByRecursion P xs → AllByRecursion P (distinct same xs)
all_distinct P same [] h = tt
all_distinct P same (x ∷ xs) h = (h.0, all_filter P (λ y. not (same x y)) (distinct same xs) (all_distinct P same xs h.1))

pub slice_distinct : (s : ℕ) (v : Value) (rows : Rows) → at s v (distinct_rows rows) ≡ distinct_rows (at s v rows)
slice_distinct s v rows = filter-distinct same_row-tests (λ row. same_value v (cell row s)) rows

pub slice_group : (s : ℕ) (v : Value) (keys : List ℕ) (having : Option ℕ) (rows : Rows) → s < length keys → at s v (group_rows keys having rows) ≡ group_rows keys having (at (get_or keys s 0) v rows)
slice_group s v keys having rows within =
    let all : Rows = project_rows keys rows in
    let here : List Value → Bool = λ row. same_value v (cell row s) in
    let often : List Value → Bool = λ key. allows having (times same_row key all) in
    let mine : Rows = project_rows keys (at (get_or keys s 0) v rows) in
    let mine_is : filter here all ≡ mine = slice_project s v keys rows within in
    let keys_wide : Wide (length keys) (distinct_rows all) = all_distinct _ same_row all (wide-project keys rows) in
    let counts : AllByRecursion (λ key. times same_row key all ≡ times same_row key mine) (filter here (distinct_rows all)) =
    all_on _ _ (λ key h. sym (ap (times same_row key) (sym mine_is) ∙ times-filter same_row-tests here key all ∙ ap (λ b. cond b (times same_row key all) 0) h)) _ (passes here (distinct_rows all)) in
    let distinct_is : filter here (distinct_rows all) ≡ distinct_rows mine = slice_distinct s v all ∙ ap distinct_rows mine_is in
    filter-map here (counted all) (filter often (distinct_rows all))
    ∙ ap (map (counted all)) (
    filter_on _ here (filter often (distinct_rows all)) (all_on _ _ (λ key long. ap (same_value v) (cell-left (length keys) key _ long s within)) _ (all_filter _ often _ keys_wide))
    ∙ filter-swap here often (distinct_rows all)
    ∙ filter_on often (λ key. allows having (times same_row key mine)) (filter here (distinct_rows all)) (all_on _ _ (λ key h. ap (allows having) h) _ counts))
    ∙ map_on (counted all) (counted mine) _ (all_on _ _ (λ key h. ap (λ n. key ++ value.Int n ∷ []) h) _ (all_filter _ (λ key. allows having (times same_row key mine)) _ counts))
    ∙ ap (λ ks. map (counted mine) (filter (λ key. allows having (times same_row key mine)) ks)) distinct_is

-- a count that only looks at what stays
count_kept : {X : Type 0} (p q : X → Bool) → ((x : X) → p x ≡ true → q x ≡ true) → (xs : List X) → count_by p xs ≡ count_by p (filter q xs)
count_kept p q h [] = refl
count_kept {X} p q h (x ∷ xs) = one (q x) refl (p x) refl (count_kept p q h xs)
  where
    one : (b : Bool) → q x ≡ b → (c : Bool) → p x ≡ c → count_by p xs ≡ count_by p (filter q xs) → count_by p (x ∷ xs) ≡ count_by p (cond b (x ∷ filter q xs) (filter q xs))
    one true e c f k = sum_by-cons (λ y. cond (p y) 1 0) x xs ∙ ap (λ n. cond (p x) 1 0 + n) k ∙ sym (sum_by-cons (λ y. cond (p y) 1 0) x (filter q xs))
    one false e true f k = absurd (true≢false (sym (h x f) ∙ e))
    one false e false f k = sum_by-cons (λ y. cond (p y) 1 0) x xs ∙ ap (λ b. cond b 1 0 + count_by p xs) f ∙ omega (arith, k)

and_left : (a b : Bool) → (a && b) ≡ true → a ≡ true
and_left true b e = refl
and_left false b e = absurd cc

-- rows of one partition have one value in its columns
partition_alike : (partition : List ℕ) (s : ℕ) → Has partition s → (x y : List Value) → same_row (cut partition x) (cut partition y) ≡ true → cell x s ≡ cell y s
partition_alike partition s h x y e = sym (cell-cut partition x s h) ∙ ap (λ r. cell r (place_in partition s)) (same_row-tests.equal (cut partition x) (cut partition y) e) ∙ cell-cut partition y s h

place_slice : (partition : List ℕ) (order : List Key) (s : ℕ) (v : Value) → Has partition s → (all earlier : Rows) (x : List Value) → same_value v (cell x s) ≡ true
    → place_of partition order all earlier x ≡ place_of partition order (at s v all) (at s v earlier) x
place_slice partition order s v h all earlier x mine = ap₂ (λ m n. 1 + (m + n))
    (count_kept (before_in partition order x) (λ row. same_value v (cell row s)) (λ y b. ap (same_value v) (sym (partition_alike partition s h x y (and_left _ _ b))) ∙ mine) all)
    (sym (times-filter same_row-tests (λ row. same_value v (cell row s)) x earlier ∙ ap (λ b. cond b (times same_row x earlier) 0) mine))

at_push : (s : ℕ) (v : Value) (earlier : Rows) (x : List Value) (b : Bool) → same_value v (cell x s) ≡ b → at s v (earlier ++ x ∷ []) ≡ at s v earlier ++ cond b (x ∷ []) []
at_push s v earlier x b e = filter-append (λ row. same_value v (cell row s)) earlier (x ∷ []) ∙ ap (λ c. at s v earlier ++ cond c (x ∷ []) []) e

slice_number_from : (partition : List ℕ) (order : List Key) (s w : ℕ) (v : Value) → Has partition s → s < w → (all earlier rest : Rows) → Wide w rest
    → at s v (number_from partition order all earlier rest) ≡ number_from partition order (at s v all) (at s v earlier) (at s v rest)
slice_number_from partition order s w v h within all earlier [] wide = refl
slice_number_from partition order s w v h within all earlier (x ∷ rest) wide =
    let next = slice_number_from partition order s w v h within all (earlier ++ x ∷ []) rest wide.1 in
    let same_cell : same_value v (cell (numbered_row partition order all earlier x) s) ≡ same_value v (cell x s) = ap (same_value v) (cell-left w x _ wide.0 s within) in
    let made : Rows = at s v (number_from partition order all (earlier ++ x ∷ []) rest) in
    let first : List Value = numbered_row partition order all earlier x in
    let after : Bool → Rows = λ b. number_from partition order (at s v all) (at s v earlier) (cond b (x ∷ at s v rest) (at s v rest)) in
    ⊎_elim
    (λ e. ap (λ b. cond b (first ∷ made) made) (same_cell ∙ e)
    ∙ ap₂ (λ n zs. (x ++ value.Int n ∷ []) ∷ zs) (place_slice partition order s v h all earlier x e)
    (next ∙ ap (λ before. number_from partition order (at s v all) before (at s v rest)) (at_push s v earlier x true e))
    ∙ sym (ap after e))
    (λ e. ap (λ b. cond b (first ∷ made) made) (same_cell ∙ e)
    ∙ next ∙ ap (λ before. number_from partition order (at s v all) before (at s v rest)) (at_push s v earlier x false e ∙ append-nil (at s v earlier))
    ∙ sym (ap after e))
    (cases_Bool (same_value v (cell x s)))

pub slice_number : (partition : List ℕ) (order : List Key) (s w : ℕ) (v : Value) → Has partition s → s < w → (rows : Rows) → Wide w rows → at s v (number_rows partition order rows) ≡ number_rows partition order (at s v rows)
slice_number partition order s w v h within rows wide = slice_number_from partition order s w v h within rows [] rows wide
