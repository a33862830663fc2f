-- Numbered rows, and rows that a limit keeps, hold values of their kinds.
use Rattle.std.proofs.Common.{ℕ, zero, suc, ◌+◌, ◌<◌, ◌^◌, Bool, true, false, cond, List, [], ◌∷◌, ◌++◌, length, get_or, map, filter, take, sym, subst, arith, Option, Some, None}
use Rattle.std.specs.List.{range_with_len, AllByRecursion}
use Rattle.std.proofs.lemmas.List.Sums.{count_by-le-length}
use Rattle.std.proofs.lemmas.List.FromFn.{length-range_with_len}
use Rattle.pdn_base.specs.declared.marks.Kind.{Kind}
use Rattle.pdn_base.specs.declared.marks.Kind.TheVariants as kind
use Rattle.pdn_base.specs.declared.value.Value.{Value}
use Rattle.pdn_base.specs.declared.value.Value.TheVariants as value
use Rattle.pdn_base.specs.Operators.{listed, limited}
use Rattle.pdn_base.proofs.BagLaws.{Perm-from_bag}
use Rattle.pdn_base.proofs.Perms.{Perm}
use Rattle.pdn_base.proofs.Perms.Perm.{none, more, exchange, then}
use Rattle.pdn_base.proofs.RowLaws.{same_row-tests}
use Rattle.pdn_circuit.proofs.PlainLaws.{yields-gives, yields-then}
use Rattle.pdn_obl_rows.specs.Lists.{PaddedList, number_at, row_at, is_valid, valid_rows}
use Rattle.pdn_obl_rows.specs.Encoding.{RowIsOf, RowsAreOf}
use Rattle.pdn_obl_group.specs.Loops.{counts_column}
use Rattle.pdn_obl_rank.specs.Numbers.{with_counts}
use Rattle.pdn_obl_rank.specs.Means.{NumberHolds, TopHolds}
use Rattle.pdn_obl_rank.proofs.CountLaws.{counts_at, counted}
use Rattle.pdn_obl_rank.proofs.PlaceLaws.{count_row}
use Rattle.pdn_obl_rank.proofs.FirstLaws.{all_wide}

abbrev AllOf : List Kind → List (List Value) → Type 0
AllOf kinds rows = AllByRecursion (RowIsOf kinds) rows

to_all : (kinds : List Kind) (rows : List (List Value)) → RowsAreOf kinds rows → AllOf kinds rows
to_all kinds [] r = tt
to_all kinds (x ∷ xs) r = (r.at 0 (omega arith), to_all kinds xs (record { at = λ i h. r.at (suc i) (omega arith) }))

from_all : (kinds : List Kind) (rows : List (List Value)) → AllOf kinds rows → RowsAreOf kinds rows
from_all kinds rows a = record { at = at rows a }
  where
    at : (rows : List (List Value)) → AllOf kinds rows → (i : ℕ) → i < length rows → RowIsOf kinds (get_or rows i [])
    at [] a i h = absurd (omega arith)
    at (x ∷ xs) a zero h = a.0
    at (x ∷ xs) a (suc i) h = at xs a.1 i (omega arith)

-- ---- numbered rows
with_number : (kinds : List Kind) (row : List Value) (n : ℕ) → n < 2 ^ 32 → RowIsOf kinds row → RowIsOf (kinds ++ kind.Int ∷ []) (row ++ value.Int n ∷ [])
with_number [] [] n h r = (h, tt)
with_number [] (v ∷ vs) n h r = absurd r
with_number (k ∷ ks) [] n h r = absurd r
with_number (k ∷ ks) (v ∷ vs) n h r = (r.0, with_number ks vs n h r.1)

chosen_all : (P Q : List Value → Type 0) (f g : ℕ → List Value) (v : ℕ → Bool) (from count : ℕ) → ((i : ℕ) → i < from + count → P (f i) → Q (g i))
    → AllByRecursion P (map f (filter v (range_with_len from count))) → AllByRecursion Q (map g (filter v (range_with_len from count)))
chosen_all P Q f g v from zero h a = tt
chosen_all P Q f g v from (suc count) h a = step (v from) (h from (omega arith)) (chosen_all P Q f g v (from + 1) count (λ i l. h i (omega arith))) a
  where
    step : (b : Bool) → (P (f from) → Q (g from)) → (AllByRecursion P (map f (filter v (range_with_len (from + 1) count))) → AllByRecursion Q (map g (filter v (range_with_len (from + 1) count))))
        → AllByRecursion P (map f (cond b (from ∷ filter v (range_with_len (from + 1) count)) (filter v (range_with_len (from + 1) count))))
        → AllByRecursion Q (map g (cond b (from ∷ filter v (range_with_len (from + 1) count)) (filter v (range_with_len (from + 1) count))))
    step true here rest a = (here a.0, rest a.1)
    step false here rest a = rest a

pub number_holds : NumberHolds
number_holds inputs words ends list shaped few partition order fits out y rows =
    let a = yields-then _ _ y in
    let b = yields-then _ _ a.rest in
    let n : ℕ → ℕ = number_at words (counts_column b.x) in
    let low : (i : ℕ) → i < list.len → n i < 2 ^ 32
    = λ i h. omega (arith, counted inputs words ends list shaped partition order fits a.x a.first few b.first i h, count_by-le-length (counts_at words list partition order i) (range_with_len 0 list.len), length-range_with_len 0 list.len, few) in
    subst (λ (o : PaddedList). RowsAreOf (list.kinds ++ kind.Int ∷ []) (valid_rows words o)) (sym (yields-gives _ b.rest))
    (from_all (list.kinds ++ kind.Int ∷ []) (valid_rows words (with_counts list b.x))
    (chosen_all (RowIsOf list.kinds) (RowIsOf (list.kinds ++ kind.Int ∷ [])) (row_at words list) (row_at words (with_counts list b.x)) (is_valid words list) 0 list.len
    (λ i h r. subst (λ (row : List Value). RowIsOf (list.kinds ++ kind.Int ∷ []) row) (sym (count_row inputs words ends list shaped few partition order fits b.x i)) (with_number list.kinds (row_at words list i) (n i) (low i (omega arith)) r))
    (to_all list.kinds (valid_rows words list) rows)))

-- ---- rows within a limit
all_perm : (P : List Value → Type 0) {xs ys : List (List Value)} → Perm (List Value) xs ys → AllByRecursion P ys → AllByRecursion P xs
all_perm P none a = tt
all_perm P (more x p) a = (a.0, all_perm P p a.1)
all_perm P (exchange x y xs) a = let b = a.1 in (b.0, (a.0, b.1))
all_perm P (then p q) a = all_perm P p (all_perm P q a)

all_take : (P : List Value → Type 0) (n : ℕ) (xs : List (List Value)) → AllByRecursion P xs → AllByRecursion P (take n xs)
all_take P zero xs a = tt
all_take P (suc n) [] a = tt
all_take P (suc n) (x ∷ xs) a = (a.0, all_take P n xs a.1)

all_limited : (P : List Value → Type 0) (limit : Option ℕ) (xs : List (List Value)) → AllByRecursion P xs → AllByRecursion P (limited limit xs)
all_limited P None xs a = a
all_limited P (Some n) xs a = all_take P n xs a

pub top_holds : TopHolds
top_holds words list order limit out is rows =
    subst (λ (ks : List Kind). RowsAreOf ks (valid_rows words out)) (sym is.kinds)
    (from_all list.kinds (valid_rows words out) (all_perm (RowIsOf list.kinds) (Perm-from_bag same_row-tests is.rows)
    (all_limited (RowIsOf list.kinds) limit (listed order (valid_rows words list)) (all_wide order (length list.kinds) 0 (RowIsOf list.kinds) (valid_rows words list) (to_all list.kinds (valid_rows words list) rows)))))
