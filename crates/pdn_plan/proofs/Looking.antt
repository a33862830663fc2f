-- What is known of a name that binding lets pass, and that the answer looks it up at the same place.
use Rattle.std.proofs.Common.{◌≡◌, ℕ, suc, zero, ◌+◌, ◌<◌, Bool, true, false, ◌&&◌, ◌||◌, cond, List, [], ◌∷◌, ◌++◌, map, count_by, length, sym, refl, ap, ap₂, ◌∙◌, Option, Some, None, arith}
use Rattle.std.specs.List.{AllByRecursion, list_any}
use Rattle.std.proofs.lemmas.List.Sums.{sum_by-cons}
use Rattle.pdn_base.specs.declared.value.Value.{Value}
use Rattle.pdn_base.specs.Values.{cell}
use Rattle.pdn_base.specs.Conditions.{meets, plus, compares, cmp_true, operand_value}
use Rattle.pdn_sql.specs.declared.query.Col.{Col}
use Rattle.pdn_sql.specs.declared.query.OrderCol.{OrderCol}
use Rattle.pdn_sql.specs.declared.query.SqlOperand.{SqlOperand}
use Rattle.pdn_sql.specs.declared.query.SqlOperand.TheVariants as written
use Rattle.pdn_sql.specs.declared.query.SqlCmp.{SqlCmp}
use Rattle.pdn_sql.specs.declared.query.SqlClause.{SqlClause}
use Rattle.pdn_sql.specs.declared.query.What.{What}
use Rattle.pdn_sql.specs.declared.query.What.TheVariants as what
use Rattle.pdn_sql.specs.declared.query.Item.{Item}
use Rattle.pdn_tree.specs.Columns.{Names, OperandNames, CmpNames}
use Rattle.pdn_plan.specs.Names.{or_else, first_of, refuse_if, by_count, col_fits, col_text, col_refusal, place, operand_refusal, cmp_refusal, clause_refusal, cond_refusal, clashes, placed_operand, placed_cmp, placed}
use Rattle.pdn_plan.specs.Steps.{what_columns, items_columns}
use Rattle.pdn_plan.specs.Binding.{what_refusal, items_refusal}
use Rattle.pdn_plan.specs.Answer.{Title, title_place, right_value, sql_true, all_true}
use Rattle.pdn_plan.specs.declared.scope.Refusal.{Refusal}
use Rattle.pdn_plan.specs.declared.scope.Seen.{Seen}

-- neither of two is a refusal
pub or_none : (a b : Option Refusal) → or_else a b ≡ None → (a ≡ None) × (b ≡ None)
or_none None b e = (refl, e)
or_none (Some r) b e = absurd cc

-- ---- a name that passes has a place

pub once : (n : ℕ) (name : List ℕ) → by_count n name ≡ None → n ≡ 1
once zero name e = absurd cc
once (suc zero) name e = refl
once (suc (suc n)) name e = absurd cc

place-below : (scope : List Seen) (col : Col) (n : ℕ) → count_by (col_fits col) scope ≡ suc n → place scope col < length scope
place-below [] col n e = absurd cc
place-below (s ∷ ss) col n e = one (col_fits col s) (sym (sum_by-cons (λ x. cond (col_fits col x) 1 0) s ss) ∙ e) (place-below ss col)
  where
    one : (b : Bool) → cond b 1 0 + count_by (col_fits col) ss ≡ suc n → ((n : ℕ) → count_by (col_fits col) ss ≡ suc n → place ss col < length ss) → cond b 0 (suc (place ss col)) < suc (length ss)
    one true h next = omega arith
    one false h next = let lt : place ss col < length ss = next n (omega (arith, h)) in omega (arith, lt)

pub place-within : (scope : List Seen) (col : Col) → col_refusal scope col ≡ None → place scope col < length scope
place-within scope col e = place-below scope col 0 (once (count_by (col_fits col) scope) (col_text col) e)

operand-within : (scope : List Seen) (o : SqlOperand) → operand_refusal scope o ≡ None → OperandNames (λ c. c < length scope) (placed_operand scope o)
operand-within scope (written.Term t) e = place-within scope t.col e
operand-within scope (written.Int n) e = tt
operand-within scope (written.Code c) e = tt

cmps-within : (scope : List Seen) (cs : List SqlCmp) → first_of (cmp_refusal scope) cs ≡ None → AllByRecursion (CmpNames (λ c. c < length scope)) (map (placed_cmp scope) cs)
cmps-within scope [] e = tt
cmps-within scope (c ∷ cs) e =
    let here = or_none (cmp_refusal scope c) (first_of (cmp_refusal scope) cs) e in
    let left = or_none (col_refusal scope c.left.col) (or_else (operand_refusal scope c.right) (or_else (refuse_if (clashes scope c) 4 (col_text c.left.col)) None)) here.0 in
    let right = or_none (operand_refusal scope c.right) (or_else (refuse_if (clashes scope c) 4 (col_text c.left.col)) None) left.1 in
    ((place-within scope c.left.col left.0, operand-within scope c.right right.0), cmps-within scope cs here.1)

-- the columns of conditions that pass
pub cond-within : (scope : List Seen) (clauses : List SqlClause) → cond_refusal scope clauses ≡ None → Names (λ c. c < length scope) (placed scope clauses)
cond-within scope [] e = tt
cond-within scope (c ∷ cs) e =
    let here = or_none (clause_refusal scope c) (cond_refusal scope cs) e in
    (cmps-within scope c.any here.0, cond-within scope cs here.1)

pub cols-within : (scope : List Seen) (cols : List Col) → first_of (col_refusal scope) cols ≡ None → AllByRecursion (λ c. c < length scope) (map (place scope) cols)
cols-within scope [] e = tt
cols-within scope (c ∷ cs) e =
    let here = or_none (col_refusal scope c) (first_of (col_refusal scope) cs) e in
    (place-within scope c here.0, cols-within scope cs here.1)

order-within : (scope : List Seen) (order : List OrderCol) → first_of (λ o. col_refusal scope o.col) order ≡ None → AllByRecursion (λ c. c < length scope) (map (λ o. place scope o.col) order)
order-within scope [] e = tt
order-within scope (o ∷ os) e =
    let here = or_none (col_refusal scope o.col) (first_of (λ o. col_refusal scope o.col) os) e in
    (place-within scope o.col here.0, order-within scope os here.1)

pub all-append : {X : Type 0} (P : X → Type 0) (xs ys : List X) → AllByRecursion P xs → AllByRecursion P ys → AllByRecursion P (xs ++ ys)
all-append P [] ys h k = k
all-append P (x ∷ xs) ys h k = (h.0, all-append P xs ys h.1 k)

what-within : (scope : List Seen) (w : What) → what_refusal scope w ≡ None → AllByRecursion (λ c. c < length scope) (what_columns (place scope) w)
what-within scope (what.Column col) e = (place-within scope col e, tt)
what-within scope what.Count e = tt
what-within scope (what.Number partition order) e =
    let here = or_none (first_of (col_refusal scope) partition) (first_of (λ o. col_refusal scope o.col) order) e in
    all-append _ (map (place scope) partition) (map (λ o. place scope o.col) order) (cols-within scope partition here.0) (order-within scope order here.1)

pub items-within : (scope : List Seen) (items : List Item) → items_refusal scope items ≡ None → AllByRecursion (λ c. c < length scope) (items_columns (place scope) items)
items-within scope [] e = tt
items-within scope (i ∷ is) e =
    let here = or_none (what_refusal scope i.what) (items_refusal scope is) e in
    all-append _ (what_columns (place scope) i.what) (items_columns (place scope) is) (what-within scope i.what here.0) (items-within scope is here.1)

-- ---- the answer's own look-up

abbrev pub title_of : Seen → Title
title_of s = record { of = s.of; name = s.name }

pub title-place : (scope : List Seen) (col : Col) → title_place (map title_of scope) col ≡ place scope col
title-place [] col = refl
title-place (s ∷ ss) col = ap (λ n. cond (col_fits col s) 0 (suc n)) (title-place ss col)

-- a place in the columns so far is the same place among all
pub place-front : (scope more : List Seen) (col : Col) → place scope col < length scope → place (scope ++ more) col ≡ place scope col
place-front [] more col h = absurd (omega arith)
place-front (s ∷ ss) more col h = one (col_fits col s) refl h (place-front ss more col)
  where
    one : (b : Bool) → col_fits col s ≡ b → cond b 0 (suc (place ss col)) < suc (length ss) → (place ss col < length ss → place (ss ++ more) col ≡ place ss col) → cond b 0 (suc (place (ss ++ more) col)) ≡ cond b 0 (suc (place ss col))
    one true f k next = refl
    one false f k next = ap suc (next (omega (arith, k)))

right-true : (scope : List Seen) (row : List Value) (o : SqlOperand) → operand_value (placed_operand scope o) row ≡ right_value (map title_of scope) row o
right-true scope row (written.Term t) = ap (λ c. plus t.plus (cell row c)) (sym (title-place scope t.col))
right-true scope row (written.Int n) = refl
right-true scope row (written.Code c) = refl

cmps-true : (scope : List Seen) (row : List Value) (cs : List SqlCmp) → list_any (cmp_true row) (map (placed_cmp scope) cs) ≡ list_any (sql_true (map title_of scope) row) cs
cmps-true scope row [] = refl
cmps-true scope row (c ∷ cs) = ap₂ (λ a b. a || b)
    (ap₂ (compares c.op) (ap (λ n. plus c.left.plus (cell row n)) (sym (title-place scope c.left.col))) (right-true scope row c.right))
    (cmps-true scope row cs)

-- a condition with places is true of the rows of which the condition as written is true
pub placed-true : (scope : List Seen) (row : List Value) (clauses : List SqlClause) → meets (placed scope clauses) row ≡ all_true (map title_of scope) row clauses
placed-true scope row [] = refl
placed-true scope row (c ∷ cs) = ap₂ (λ a b. a && b) (cmps-true scope row c.any) (placed-true scope row cs)

-- ---- what is named is among what is named

all-weaker : {X : Type 0} (P Q : X → Type 0) → ((c : X) → P c → Q c) → (cs : List X) → AllByRecursion P cs → AllByRecursion Q cs
all-weaker P Q w [] h = tt
all-weaker P Q w (c ∷ cs) h = (w c h.0, all-weaker P Q w cs h.1)
