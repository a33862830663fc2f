-- What a link of a join says of the joined rows.
use Rattle.std.proofs.Common.{◌≡◌, ℕ, zero, suc, ◌+◌, ◌-◌, ◌<◌, ◌≤◌, ◌==◌, nat_le, Bool, true, false, not, ◌&&◌, ◌||◌, cond, List, [], ◌∷◌, length, find, sym, refl, ap, ◌∙◌, subst, arith, ⊎_elim, Option, Some, None, is_some, unwrap_or, leb-true, eqb-true}
use Rattle.std.specs.List.{AllByRecursion, list_any, cons_option}
use Rattle.std.proofs.lemmas.Bool.{or_cases}
use Rattle.pdn_base.specs.declared.value.Value.{Value}
use Rattle.pdn_base.specs.declared.cond.Op.{Op}
use Rattle.pdn_base.specs.declared.cond.Op.TheVariants as op
use Rattle.pdn_base.specs.declared.cond.Operand.{Operand}
use Rattle.pdn_base.specs.declared.cond.Operand.TheVariants as operand
use Rattle.pdn_base.specs.declared.cond.Cmp.{Cmp}
use Rattle.pdn_base.specs.Values.{cell}
use Rattle.pdn_base.specs.Conditions.{plus, compares, operand_value, meets, cmp_true}
use Rattle.pdn_base.proofs.RowLaws.{value_cmp-ties, is_eq-tie}
use Rattle.pdn_level.specs.declared.links.Link.{Link}
use Rattle.pdn_level.specs.Links.{slice_at, is_equal, pair_with, plain_pair, plain_clause, crosses, link_of, links, names_column, link_at}
use Rattle.pdn_level.proofs.Lists.{both_true}

pub slice-within : (slices : List Bool) (c : ℕ) → slice_at slices c ≡ true → c < length slices
slice-within [] c h = absurd cc
slice-within (b ∷ bs) zero h = omega arith
slice-within (b ∷ bs) (suc c) h = omega (arith, slice-within bs c h)

-- a comparison of two plain columns, where it is true
some_is : {X : Type 0} (x y : X) → Some x ≡ Some y → x ≡ y
some_is {X} x y e = ap (λ (o : Option X). unwrap_or o x) e

plain_sides : (row : List Value) (l k : ℕ) (added : Option ℕ) (p : ℕ × ℕ) → cond (is_some added) None (Some (l, k)) ≡ Some p → compares op.Eq (cell row l) (plus added (cell row k)) ≡ true → cell row p.0 ≡ cell row p.1
plain_sides row l k None p e t =
    let is : (l, k) ≡ p = some_is (l, k) p e in
    sym (ap (λ (q : ℕ × ℕ). cell row q.0) is) ∙ value_cmp-ties (cell row l) (cell row k) (is_eq-tie _ t) ∙ ap (λ (q : ℕ × ℕ). cell row q.1) is
plain_sides row l k (Some n) p e t = absurd cc

plain_right : (row : List Value) (l : ℕ) (r : Operand) (p : ℕ × ℕ) → pair_with l r ≡ Some p → compares op.Eq (cell row l) (operand_value r row) ≡ true → cell row p.0 ≡ cell row p.1
plain_right row l (operand.Term u) p e t = plain_sides row l u.column u.plus p e t
plain_right row l (operand.Int n) p e t = absurd cc
plain_right row l (operand.Code n) p e t = absurd cc

plain_parts : (row : List Value) (o : Op) (added : Option ℕ) (l : ℕ) (r : Operand) (p : ℕ × ℕ) → cond (is_equal o && not (is_some added)) (pair_with l r) None ≡ Some p
    → compares o (plus added (cell row l)) (operand_value r row) ≡ true → cell row p.0 ≡ cell row p.1
plain_parts row op.Eq None l r p e t = plain_right row l r p e t
plain_parts row op.Eq (Some n) l r p e t = absurd cc
plain_parts row op.Ne added l r p e t = absurd cc
plain_parts row op.Lt added l r p e t = absurd cc
plain_parts row op.Le added l r p e t = absurd cc
plain_parts row op.Gt added l r p e t = absurd cc
plain_parts row op.Ge added l r p e t = absurd cc

plain_true : (row : List Value) (c : Cmp) (p : ℕ × ℕ) → plain_pair c ≡ Some p → cmp_true row c ≡ true → cell row p.0 ≡ cell row p.1
plain_true row c p e t = plain_parts row c.op c.left.plus c.left.column c.right p e t

-- what each link says
pub record Linked (left right : List Bool) (on : List (List Cmp)) (k : Link) : Type 0 where
  pub left_has : slice_at left k.left ≡ true
  pub right_has : slice_at right k.right ≡ true
  pub equal : (row : List Value) → meets on row ≡ true → cell row k.left ≡ cell row (length left + k.right)

linked : (left right : List Bool) (on : List (List Cmp)) (l r : ℕ) → ((row : List Value) → meets on row ≡ true → cell row l ≡ cell row r) → crosses left right l r ≡ true → Linked left right on (record { left = l; right = r - length left })
linked left right on l r same fits =
    let halves = both_true _ _ fits in
    let second = both_true _ _ halves.1 in
    let above : length left ≤ r = leb-true (length left) r second.0 in
    record { left_has = halves.0; right_has = second.1; equal = λ row m. same row m ∙ ap (cell row) (omega (arith, above)) }

linked_pair : (left right : List Bool) (on : List (List Cmp)) (o : Option (ℕ × ℕ)) → ((p : ℕ × ℕ) → o ≡ Some p → (row : List Value) → meets on row ≡ true → cell row p.0 ≡ cell row p.1)
    → (k : Link) → link_of left right o ≡ Some k → Linked left right on k
linked_pair left right on None same k e = absurd cc
linked_pair left right on (Some p) same k e = either (crosses left right p.0 p.1) refl (crosses left right p.1 p.0) refl e
  where
    either : (b : Bool) → crosses left right p.0 p.1 ≡ b → (c : Bool) → crosses left right p.1 p.0 ≡ c
        → cond b (Some (record { left = p.0; right = p.1 - length left })) (cond c (Some (record { left = p.1; right = p.0 - length left })) None) ≡ Some k → Linked left right on k
    either true e c f is = subst (Linked left right on) (some_is _ k is) (linked left right on p.0 p.1 (same p refl) e)
    either false e true f is = subst (Linked left right on) (some_is _ k is) (linked left right on p.1 p.0 (λ row m. sym (same p refl row m)) f)
    either false e false f is = absurd cc

linked_clause : (left right : List Bool) (on : List (List Cmp)) (cs : List Cmp) → ((row : List Value) → meets on row ≡ true → list_any (cmp_true row) cs ≡ true) → (k : Link) → link_of left right (plain_clause cs) ≡ Some k → Linked left right on k
linked_clause left right on [] h k e = absurd cc
linked_clause left right on (c ∷ []) h k e = linked_pair left right on (plain_pair c) (λ p f row m. plain_true row c p f (alone (cmp_true row c) (h row m))) k e
  where
    alone : (b : Bool) → (b || false) ≡ true → b ≡ true
    alone true e = refl
    alone false e = e
linked_clause left right on (c ∷ d ∷ cs) h k e = absurd cc

cons_all : {X : Type 0} (P : X → Type 0) (o : Option X) (xs : List X) → ((x : X) → o ≡ Some x → P x) → AllByRecursion P xs → AllByRecursion P (cons_option o xs)
cons_all P None xs h k = k
cons_all P (Some x) xs h k = (h x refl, k)

all_linked : (left right : List Bool) (on cs : List (List Cmp)) → ((row : List Value) → meets on row ≡ true → meets cs row ≡ true) → AllByRecursion (Linked left right on) (links left right cs)
all_linked left right on [] h = tt
all_linked left right on (c ∷ cs) h = cons_all (Linked left right on) (link_of left right (plain_clause c)) (links left right cs)
    (linked_clause left right on c (λ row m. (both_true _ _ (h row m)).0))
    (all_linked left right on cs (λ row m. (both_true _ _ (h row m)).1))

-- what a search finds
find_step : {X : Type 0} (P : X → Type 0) (q : X → Bool) (d x : X) (xs : List X) → P x → (list_any q xs ≡ true → P (unwrap_or (find q xs) d) × (q (unwrap_or (find q xs) d) ≡ true))
    → (b : Bool) → q x ≡ b → (b || list_any q xs) ≡ true → P (unwrap_or (cond b (Some x) (find q xs)) d) × (q (unwrap_or (cond b (Some x) (find q xs)) d) ≡ true)
find_step P q d x xs here next true f e = (here, f)
find_step P q d x xs here next false f e = next e

find_is : {X : Type 0} (P : X → Type 0) (q : X → Bool) (d : X) (xs : List X) → AllByRecursion P xs → list_any q xs ≡ true → P (unwrap_or (find q xs) d) × (q (unwrap_or (find q xs) d) ≡ true)
find_is P q d [] h e = absurd cc
find_is P q d (x ∷ xs) h e = find_step P q d x xs h.0 (find_is P q d xs h.1) (q x) refl e

side_is : (w s : ℕ) (k : Link) (row : List Value) → cell row k.left ≡ cell row (w + k.right) → names_column w s k ≡ true → cell row s ≡ cell row k.left
side_is w s k row same named = ⊎_elim
    (λ e. ap (cell row) (omega (arith, eqb-true k.left s e)))
    (λ e.
    let both : (nat_le w s ≡ true) × ((k.right == s - w) ≡ true) = both_true (nat_le w s) (k.right == s - w) e in
    ap (cell row) (omega (arith, leb-true w s both.0, eqb-true k.right (s - w) both.1)) ∙ sym same)
    (or_cases (k.left == s) (nat_le w s && (k.right == s - w)) named)

-- the link of a column that some clause links
pub record Links (left right : List Bool) (on : List (List Cmp)) (s : ℕ) (k : Link) : Type 0 where
  pub linked : Linked left right on k
  pub side : (row : List Value) → meets on row ≡ true → cell row s ≡ cell row k.left

pub link_links : (left right : List Bool) (on : List (List Cmp)) (s : ℕ) → list_any (names_column (length left) s) (links left right on) ≡ true → Links left right on s (link_at left right on s)
link_links left right on s h =
    let found = find_is (Linked left right on) (names_column (length left) s) (record { left = 0; right = 0 }) (links left right on) (all_linked left right on on (λ row m. m)) h in
    record { linked = found.0; side = λ row m. side_is (length left) s (link_at left right on s) row (found.0.equal row m) found.1 }
