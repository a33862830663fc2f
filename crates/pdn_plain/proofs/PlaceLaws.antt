-- A row's place is at most the number of the rows.
use Rattle.std.proofs.Common.{◌≡◌, ℕ, ◌+◌, ◌<◌, ◌≤◌, Bool, true, false, ◌&&◌, cond, List, [], ◌∷◌, length, take, get_or, count_by, sym, ap, ◌∙◌, subst, arith, ⊎_elim, true≢false}
use Rattle.std.specs.Ordering.{is_lt}
use Rattle.std.proofs.lemmas.Bool.{cases_Bool}
use Rattle.std.proofs.lemmas.Cmp.{tied_itself}
use Rattle.std.proofs.lemmas.List.Sums.{sum_by-cons, sum_by_more_le}
use Rattle.pdn_base.specs.declared.value.Value.{Value}
use Rattle.pdn_base.specs.declared.order.Key.{Key}
use Rattle.pdn_base.specs.Values.{same_row, cut, row_cmp}
use Rattle.pdn_base.specs.Bags.{times}
use Rattle.pdn_base.specs.Operators.{before_in}
use Rattle.pdn_base.specs.Totals.{row_cmp-total}
use Rattle.pdn_base.proofs.RowLaws.{same_row-tests}

-- two tests that never hold together
apart-counts : {X : Type 0} (p q : X → Bool) → ((x : X) → p x ≡ true → q x ≡ false) → (xs : List X) → count_by p xs + count_by q xs ≤ length xs
apart-counts p q h [] = omega arith
apart-counts p q h (x ∷ xs) = ⊎_elim
    (λ e. omega (arith, sum_by-cons (λ y. cond (p y) 1 0) x xs, sum_by-cons (λ y. cond (q y) 1 0) x xs, ap {B = ℕ} (λ b. cond b 1 0) e, ap {B = ℕ} (λ b. cond b 1 0) (h x e), apart-counts p q h xs))
    (λ e. omega (arith, sum_by-cons (λ y. cond (p y) 1 0) x xs, sum_by-cons (λ y. cond (q y) 1 0) x xs, ap {B = ℕ} (λ b. cond b 1 0) e, one (q x), apart-counts p q h xs))
    (cases_Bool (p x))
  where
    one : (b : Bool) → cond b 1 0 ≤ 1
    one true = omega arith
    one false = omega arith

and-second : (b c : Bool) → (b && c) ≡ true → c ≡ true
and-second true c e = e
and-second false c e = absurd cc

-- a row does not come before its equal
before-unlike : (partition : List ℕ) (order : List Key) (x y : List Value) → before_in partition order x y ≡ true → same_row x y ≡ false
before-unlike partition order x y h = ⊎_elim
    (λ e.
    let less : is_lt (row_cmp order y x) ≡ true = and-second (same_row (cut partition x) (cut partition y)) (is_lt (row_cmp order y x)) h in
    let itself : is_lt (row_cmp order x x) ≡ true = subst (λ (z : List Value). is_lt (row_cmp order z x) ≡ true) (sym (same_row-tests.equal x y e)) less in
    absurd (true≢false (sym itself ∙ ap is_lt (tied_itself (row_cmp-total order) x))))
    (λ e. e)
    (cases_Bool (same_row x y))

pub place-within : (partition : List ℕ) (order : List Key) (all : List (List Value)) (at : ℕ) (x : List Value) → at < length all → x ≡ get_or all at x
    → count_by (before_in partition order x) all + times same_row x (take at all) < length all
place-within partition order all at x l e =
    let one : cond (same_row x (get_or all at x)) 1 0 ≡ 1 = ap {B = ℕ} (λ b. cond b 1 0) (subst (λ (z : List Value). same_row x z ≡ true) e (same_row-tests.itself x)) in
    omega (arith, apart-counts (before_in partition order x) (same_row x) (before-unlike partition order x) all, sum_by_more_le (λ y. cond (same_row x y) 1 0) all at x l, one)
