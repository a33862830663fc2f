-- The order of rows is total, and ties only equal rows.
use Rattle.std.proofs.Common.{◌≡◌, ℕ, ◌<◌, true, ◌&&◌, List, [], ◌∷◌, sym, refl, ap, ap₂, ◌∙◌, subst, arith, Ordering, Less, Equal, Greater}
use Rattle.std.specs.Ordering.{nat_cmp, is_eq, eq_by_cmp, ordering_then, MatchOrdering}
use Rattle.std.specs.List.{list_all}
use Rattle.std.proofs.lemmas.Cmp.{tied_itself, ranked}
use Rattle.pdn_base.specs.declared.value.Value.{Value}
use Rattle.pdn_base.specs.declared.value.Value.TheVariants as value
use Rattle.pdn_base.specs.declared.order.Key.{Key}
use Rattle.pdn_base.specs.Bags.{TestsEquality}
use Rattle.pdn_base.specs.Totals.{cells_cmp-total}
use Rattle.pdn_base.specs.Values.{kind_of, number_of, value_cmp, cells_cmp, same_row, cell, cut, keys_cmp, row_cmp}

-- ties
then_ties : (o p : Ordering) → ordering_then o p ≡ Equal → (o ≡ Equal) × (p ≡ Equal)
then_ties Less p e = absurd cc
then_ties Equal p e = (refl, e)
then_ties Greater p e = absurd cc

nat_ties : (m n : ℕ) → nat_cmp m n ≡ Equal → m ≡ n
nat_ties m n e = subst (λ o. MatchOrdering o (m < n) (m ≡ n) (n < m)) e (ranked m n (nat_cmp m n) refl)

same_value : (x y : Value) → kind_of x ≡ kind_of y → number_of x ≡ number_of y → x ≡ y
same_value (value.Int m) (value.Int n) k e = ap value.Int e
same_value (value.Code c) (value.Code d) k e = ap value.Code e
same_value (value.Int m) (value.Code d) k e = absurd (omega (arith, k))
same_value (value.Code c) (value.Int n) k e = absurd (omega (arith, k))

pub value_cmp-ties : (x y : Value) → value_cmp x y ≡ Equal → x ≡ y
value_cmp-ties x y e =
    let both = then_ties (nat_cmp (kind_of x) (kind_of y)) (nat_cmp (number_of x) (number_of y)) e in
    same_value x y (nat_ties _ _ both.0) (nat_ties _ _ both.1)

pub cells_cmp-ties : (x y : List Value) → cells_cmp x y ≡ Equal → x ≡ y
cells_cmp-ties [] [] e = refl
cells_cmp-ties [] (b ∷ y) e = absurd cc
cells_cmp-ties (a ∷ x) [] e = absurd cc
cells_cmp-ties (a ∷ x) (b ∷ y) e =
    let both = then_ties (value_cmp a b) (cells_cmp x y) e in
    ap₂ (λ c z. c ∷ z) (value_cmp-ties a b both.0) (cells_cmp-ties x y both.1)

-- rows that never differ are equal
pub row_cmp-ties : (keys : List Key) (x y : List Value) → row_cmp keys x y ≡ Equal → x ≡ y
row_cmp-ties keys x y e = cells_cmp-ties x y (then_ties (keys_cmp keys x y) (cells_cmp x y) e).1

pub is_eq-tie : (o : Ordering) → is_eq o ≡ true → o ≡ Equal
is_eq-tie Less e = absurd cc
is_eq-tie Equal e = refl
is_eq-tie Greater e = absurd cc

pub same_row-tests : TestsEquality same_row
same_row-tests = record {
  itself = λ x. ap is_eq (tied_itself cells_cmp-total x);
  equal = λ x y e. cells_cmp-ties x y (is_eq-tie (cells_cmp x y) e);
}

eq_then : (o p : Ordering) → is_eq (ordering_then o p) ≡ (is_eq o && is_eq p)
eq_then Less p = refl
eq_then Equal p = refl
eq_then Greater p = refl

-- rows cut to the same columns are equal where each of these is
pub same_cells_is : (columns : List ℕ) (x y : List Value) → list_all (λ column. eq_by_cmp value_cmp (cell x column) (cell y column)) columns ≡ same_row (cut columns x) (cut columns y)
same_cells_is [] x y = refl
same_cells_is (c ∷ cs) x y = ap (λ b. is_eq (value_cmp (cell x c) (cell y c)) && b) (same_cells_is cs x y) ∙ sym (eq_then (value_cmp (cell x c) (cell y c)) (cells_cmp (cut cs x) (cut cs y)))
