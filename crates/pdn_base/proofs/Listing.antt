-- A bag has one listing: whatever is sorted and has the same rows is that list.
use Rattle.std.proofs.Common.{◌≡◌, Bool, true, false, cond, List, [], ◌∷◌, sym, refl, ap, ◌∙◌, subst, arith, ⊎_elim, true≢false, Ordering, Less, Equal, Greater, ℕ, suc, Option, suc-add}
use Rattle.std.specs.Ordering.{is_lt, is_gt, ordering_reverse}
use Rattle.std.proofs.lemmas.Bool.{cases_Bool}
use Rattle.std.proofs.lemmas.Cmp.{upto}
use Rattle.pdn_base.specs.declared.value.Value.{Value}
use Rattle.pdn_base.specs.declared.order.Key.{Key}
use Rattle.pdn_base.specs.Values.{row_cmp, same_row}
use Rattle.pdn_base.specs.Operators.{InOrder, placed, listed, limited, top_rows}
use Rattle.pdn_base.specs.Bags.{SameBag}
use Rattle.pdn_base.proofs.Perms.{Perm, Perm-refl, Perm-same}
use Rattle.pdn_base.proofs.BagLaws.{Perm-from_bag}
use Rattle.pdn_base.proofs.Perms.Perm.{none, more, exchange, then}
use Rattle.pdn_base.specs.Totals.{row_cmp-total}
use Rattle.pdn_base.proofs.RowLaws.{row_cmp-ties, same_row-tests}

past : List Key → List Value → List Value → Bool
past order x y = is_gt (row_cmp order x y)

-- y after z, and x not after z: y after x
past_both : (order : List Key) (x y z : List Value) → is_gt (row_cmp order y z) ≡ true → is_gt (row_cmp order x z) ≡ false → is_gt (row_cmp order y x) ≡ true
past_both order x y z h k = ⊎_elim
    (λ e. e)
    (λ e. absurd (true≢false (sym h ∙ upto (row_cmp-total order) y x z e k)))
    (cases_Bool (is_gt (row_cmp order y x)))

neither_past : (o p : Ordering) → o ≡ ordering_reverse p → is_gt o ≡ false → is_gt p ≡ false → o ≡ Equal
neither_past Less Less e h k = absurd cc
neither_past Less Equal e h k = absurd cc
neither_past Less Greater e h k = absurd cc
neither_past Equal p e h k = refl
neither_past Greater p e h k = absurd cc

past_one : (o p : Ordering) → o ≡ ordering_reverse p → is_gt o ≡ true → is_gt p ≡ false
past_one Less p e h = absurd cc
past_one Equal p e h = absurd cc
past_one Greater Less e h = refl
past_one Greater Equal e h = refl
past_one Greater Greater e h = absurd cc

-- rows put in front of a list, in their order
either_way : (b c : Bool) (us vs : List (List Value)) → (b ≡ true → c ≡ false) → (b ≡ false → c ≡ false → us ≡ vs) → cond b us vs ≡ cond c vs us
either_way true true us vs one same = absurd (true≢false (one refl))
either_way true false us vs one same = refl
either_way false true us vs one same = refl
either_way false false us vs one same = sym (same refl refl)

front : (order : List Key) (x y : List Value) (zs : List (List Value)) →
    cond (is_gt (row_cmp order x y)) (y ∷ x ∷ zs) (x ∷ y ∷ zs) ≡ cond (is_gt (row_cmp order y x)) (x ∷ y ∷ zs) (y ∷ x ∷ zs)
front order x y zs =
    let back : row_cmp order x y ≡ ordering_reverse (row_cmp order y x) = (row_cmp-total order).antisymm x y in
    either_way (is_gt (row_cmp order x y)) (is_gt (row_cmp order y x)) (y ∷ x ∷ zs) (x ∷ y ∷ zs)
    (past_one (row_cmp order x y) (row_cmp order y x) back)
    (λ e f. subst (λ (z : List Value). ◌≡◌ {A = List (List Value)} (z ∷ x ∷ zs) (x ∷ z ∷ zs)) (row_cmp-ties order x y (neither_past (row_cmp order x y) (row_cmp order y x) back e f)) refl)

placed_past : (order : List Key) (x z : List Value) (zs : List (List Value)) → is_gt (row_cmp order x z) ≡ true → placed order x (z ∷ zs) ≡ z ∷ placed order x zs
placed_past order x z zs e = rw e

placed_here : (order : List Key) (x z : List Value) (zs : List (List Value)) → is_gt (row_cmp order x z) ≡ false → placed order x (z ∷ zs) ≡ x ∷ z ∷ zs
placed_here order x z zs e = rw e

-- x stays before z, y goes past both
apart : (order : List Key) (x y z : List Value) (zs : List (List Value)) → is_gt (row_cmp order x z) ≡ false → is_gt (row_cmp order y z) ≡ true → placed order x (placed order y (z ∷ zs)) ≡ placed order y (placed order x (z ∷ zs))
apart order x y z zs e f =
    let left : placed order x (placed order y (z ∷ zs)) ≡ x ∷ z ∷ placed order y zs = ap (placed order x) (placed_past order y z zs f) ∙ placed_here order x z (placed order y zs) e in
    let right : placed order y (placed order x (z ∷ zs)) ≡ x ∷ z ∷ placed order y zs = ap (placed order y) (placed_here order x z zs e) ∙ placed_past order y x (z ∷ zs) (past_both order x y z f e) ∙ ap (λ us. x ∷ us) (placed_past order y z zs f) in
    left ∙ sym right

pub placed-exchange : (order : List Key) (x y : List Value) (zs : List (List Value)) → placed order x (placed order y zs) ≡ placed order y (placed order x zs)
placed-exchange order x y [] = front order x y []
placed-exchange order x y (z ∷ zs) = ⊎_elim
    (λ e. ⊎_elim
    (λ f. ap (placed order x) (placed_past order y z zs f) ∙ placed_past order x z (placed order y zs) e ∙ ap (λ us. z ∷ us) (placed-exchange order x y zs) ∙ sym (ap (placed order y) (placed_past order x z zs e) ∙ placed_past order y z (placed order x zs) f))
    (λ f. sym (apart order y x z zs f e))
    (cases_Bool (is_gt (row_cmp order y z))))
    (λ e. ⊎_elim
    (λ f. apart order x y z zs e f)
    (λ f. ap (placed order x) (placed_here order y z zs f) ∙ ap (λ us. cond (is_gt (row_cmp order x y)) (y ∷ us) (x ∷ y ∷ z ∷ zs)) (placed_here order x z zs e) ∙ front order x y (z ∷ zs)
    ∙ sym (ap (placed order y) (placed_here order x z zs e) ∙ ap (λ us. cond (is_gt (row_cmp order y x)) (x ∷ us) (y ∷ x ∷ z ∷ zs)) (placed_here order y z zs f)))
    (cases_Bool (is_gt (row_cmp order y z))))
    (cases_Bool (is_gt (row_cmp order x z)))

-- equal bags are listed alike
pub listed-perm : (order : List Key) {xs ys : List (List Value)} → Perm (List Value) xs ys → listed order xs ≡ listed order ys
listed-perm order none = refl
listed-perm order (more x p) = ap (placed order x) (listed-perm order p)
listed-perm order (exchange x y xs) = placed-exchange order x y (listed order xs)
listed-perm order (then p q) = listed-perm order p ∙ listed-perm order q

is_gt-back : (o p : Ordering) → o ≡ ordering_reverse p → is_lt p ≡ is_gt o
is_gt-back o Less e = rw e
is_gt-back o Equal e = rw e
is_gt-back o Greater e = rw e

listed-sorted : (order : List Key) (xs : List (List Value)) → InOrder order xs → listed order xs ≡ xs
listed-sorted order [] s = refl
listed-sorted order (x ∷ []) s = refl
listed-sorted order (x ∷ y ∷ ys) s =
    let rest : listed order (y ∷ ys) ≡ y ∷ ys = listed-sorted order (y ∷ ys) (λ k d low high. simp suc-add at (s (suc k) d (omega arith) (omega arith))) in
    let first : is_gt (row_cmp order x y) ≡ false = sym (is_gt-back (row_cmp order x y) (row_cmp order y x) ((row_cmp-total order).antisymm x y)) ∙ s 0 x (omega arith) (omega arith) in
    ap (placed order x) rest ∙ placed_here order x y ys first

-- a sorted list of the same rows is the listing
pub listed_is : (order : List Key) (xs ys : List (List Value)) → SameBag same_row xs ys → InOrder order ys → ys ≡ listed order xs
listed_is order xs ys b s = sym (listed-perm order (Perm-from_bag same_row-tests b) ∙ listed-sorted order ys s)

pub top_bag : (order : List Key) (limit : Option ℕ) (xs ys : List (List Value)) → SameBag same_row xs ys → top_rows order limit xs ≡ top_rows order limit ys
top_bag order limit xs ys b = ap (limited limit) (listed-perm order (Perm-from_bag same_row-tests b))

placed-rows : (order : List Key) (x : List Value) (xs : List (List Value)) → Perm (List Value) (x ∷ xs) (placed order x xs)
placed-rows order x [] = Perm-refl (x ∷ [])
placed-rows order x (y ∷ ys) = ⊎_elim
    (λ e. then (exchange x y ys) (then (more y (placed-rows order x ys)) (Perm-same _ _ (sym (placed_past order x y ys e)))))
    (λ e. Perm-same _ _ (sym (placed_here order x y ys e)))
    (cases_Bool (is_gt (row_cmp order x y)))

pub listed-rows : (order : List Key) (xs : List (List Value)) → Perm (List Value) xs (listed order xs)
listed-rows order [] = none
listed-rows order (x ∷ xs) = then (more x (listed-rows order xs)) (placed-rows order x (listed order xs))
