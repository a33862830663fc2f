-- Keys at their first mention say as much as all keys; what may stand beside a count.
use Rattle.std.proofs.Common.{◌≡◌, ℕ, Bool, true, false, ◌||◌, ◌==◌, cond, List, [], ◌∷◌, ◌++◌, map, sym, refl, ap, ◌∙◌, subst, None, eqb-true}
use Rattle.std.specs.List.{AllByRecursion}
use Rattle.pdn_base.specs.declared.value.Value.{Value}
use Rattle.pdn_base.specs.Values.{cut, same_row}
use Rattle.pdn_base.proofs.RowLaws.{same_row-tests}
use Rattle.pdn_sql.specs.declared.query.Col.{Col}
use Rattle.pdn_sql.specs.declared.query.Item.{Item}
use Rattle.pdn_tree.specs.Columns.{has, Has, place_in}
use Rattle.pdn_tree.proofs.ColumnLaws.{cut-cut}
use Rattle.pdn_plan.specs.Names.{first_of, refuse_if}
use Rattle.pdn_plan.specs.Steps.{firsts, output_name}
use Rattle.pdn_plan.specs.Binding.{is_loose}
use Rattle.pdn_plan.proofs.Looking.{or_none}
use Rattle.pdn_plan.proofs.CondFits.{no-cause}
use Rattle.pdn_plan.proofs.OneBlock.{all-has, all-firsts, all-weaker}
use Rattle.pdn_plan.specs.declared.scope.Seen.{Seen}

-- each that is mentioned is there at its first mention
or_same : (a b f : Bool) → ((a || (b || false)) || f) ≡ (a || (b || f))
or_same true b f = refl
or_same false true f = refl
or_same false false f = refl

has-append : (xs ys : List ℕ) (c : ℕ) → has (xs ++ ys) c ≡ (has xs c || has ys c)
has-append [] ys c = refl
has-append (x ∷ xs) ys c = ap (λ b. (x == c) || b) (has-append xs ys c) ∙ or_more (x == c) (has xs c) (has ys c)
  where
    or_more : (a b d : Bool) → (a || (b || d)) ≡ ((a || b) || d)
    or_more true b d = refl
    or_more false b d = refl

pub has-push : (before : List ℕ) (x c : ℕ) (f : Bool) → (has (before ++ x ∷ []) c || f) ≡ (has before c || ((x == c) || f))
has-push before x c f = ap (λ b. b || f) (has-append before (x ∷ []) c) ∙ or_same (has before c) (x == c) f

has-before : (before : List ℕ) (x c : ℕ) (more : Bool) → has before x ≡ true → (has before c || ((x == c) || more)) ≡ true → (has before c || more) ≡ true
has-before before x c more e h = one (x == c) refl h
  where
    one : (b : Bool) → (x == c) ≡ b → (has before c || (b || more)) ≡ true → (has before c || more) ≡ true
    one true f k = ap (λ b. b || more) (ap (has before) (sym (eqb-true x c f)) ∙ e)
    one false f k = k

pub has-firsts : (before xs : List ℕ) (c : ℕ) → (has before c || has xs c) ≡ true → (has before c || has (firsts (λ x. x) before xs) c) ≡ true
has-firsts before [] c h = h
has-firsts before (x ∷ xs) c h =
    one (has before x) refl
    (λ k. has-firsts before xs c k)
    (sym (has-push before x c (has (firsts (λ x. x) (before ++ x ∷ []) xs) c)) ∙ has-firsts (before ++ x ∷ []) xs c (has-push before x c (has xs c) ∙ h))
  where
    one : (b : Bool) → has before x ≡ b → ((has before c || has xs c) ≡ true → (has before c || has (firsts (λ x. x) before xs) c) ≡ true)
        → (has before c || ((x == c) || has (firsts (λ x. x) (before ++ x ∷ []) xs) c)) ≡ true
        → (has before c || has (cond b (firsts (λ x. x) before xs) (x ∷ firsts (λ x. x) (before ++ x ∷ []) xs)) c) ≡ true
    one true e there first = there (has-before before x c (has xs c) e h)
    one false e there first = first

-- ---- what stands beside a count

pub not-loose : (scope : List Seen) (group : List Col) (items : List Item) → first_of (λ i. refuse_if (is_loose scope group i.what) 6 (output_name i)) items ≡ None → AllByRecursion (λ i. is_loose scope group i.what ≡ false) items
not-loose scope group [] e = tt
not-loose scope group (i ∷ is) e =
    let two = or_none (refuse_if (is_loose scope group i.what) 6 (output_name i)) (first_of (λ i. refuse_if (is_loose scope group i.what) 6 (output_name i)) is) e in
    (no-cause (is_loose scope group i.what) 6 (output_name i) two.0, not-loose scope group is two.1)

-- ---- rows that are equal in the keys

all-first : (ks : List ℕ) → AllByRecursion (Has (firsts (λ c. c) [] ks)) ks
all-first ks = all-weaker (Has ks) (Has (firsts (λ c. c) [] ks)) (λ c h. has-firsts [] ks c h) ks (all-has ks)

first-known : (ks : List ℕ) → AllByRecursion (Has ks) (firsts (λ c. c) [] ks)
first-known ks = all-firsts (Has ks) [] ks (all-has ks)

same-carries : (ks js : List ℕ) (x y : List Value) → AllByRecursion (Has ks) js → same_row (cut ks x) (cut ks y) ≡ true → same_row (cut js x) (cut js y) ≡ true
same-carries ks js x y h e =
    let equal : cut js x ≡ cut js y = sym (cut-cut ks js x h) ∙ ap (cut (map (place_in ks) js)) (same_row-tests.equal (cut ks x) (cut ks y) e) ∙ cut-cut ks js y h in
    subst (λ (r : List Value). same_row (cut js x) r ≡ true) equal (same_row-tests.itself (cut js x))

both_ways : (a b : Bool) → (a ≡ true → b ≡ true) → (b ≡ true → a ≡ true) → a ≡ b
both_ways true b f g = sym (f refl)
both_ways false true f g = g refl
both_ways false false f g = refl

pub same-firsts : (ks : List ℕ) (x y : List Value) → same_row (cut ks x) (cut ks y) ≡ same_row (cut (firsts (λ c. c) [] ks) x) (cut (firsts (λ c. c) [] ks) y)
same-firsts ks x y = both_ways _ _ (same-carries ks (firsts (λ c. c) [] ks) x y (first-known ks)) (same-carries (firsts (λ c. c) [] ks) ks x y (all-first ks))
