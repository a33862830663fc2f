-- A condition that binding lets pass fits the columns that it names.
use Rattle.std.proofs.Common.{◌≡◌, ℕ, Bool, true, false, not, ◌&&◌, ◌||◌, nat_lt, List, [], ◌∷◌, map, length, refl, ap, ap₂, ◌∙◌, Option, Some, None, is_none, is_some, lt-ltb}
use Rattle.std.specs.List.{list_all}
use Rattle.std.proofs.lemmas.List.{length-map}
use Rattle.std.proofs.lemmas.Bool.{true≢false}
use Rattle.pdn_base.specs.declared.marks.Kind.{Kind}
use Rattle.pdn_base.specs.declared.marks.Kind.TheVariants as kind
use Rattle.pdn_sql.specs.declared.query.SqlTerm.{SqlTerm}
use Rattle.pdn_sql.specs.declared.query.SqlOperand.{SqlOperand}
use Rattle.pdn_sql.specs.declared.query.SqlOperand.TheVariants as written
use Rattle.pdn_sql.specs.declared.query.SqlCmp.{SqlCmp}
use Rattle.pdn_sql.specs.declared.query.SqlClause.{SqlClause}
use Rattle.pdn_plan.specs.Names.{or_else, first_of, refuse_if, col_text, col_refusal, place, scope_kinds, col_kind, sums_code, operand_refusal, operand_kind, operand_sums_code, clashes, cmp_refusal, clause_refusal, cond_refusal, placed_term, placed_operand, placed_cmp, placed}
use Rattle.pdn_tree.specs.Shapes.{same_kind, term_fits, operand_fits, cmp_fits, cond_fits}
use Rattle.pdn_plan.proofs.Looking.{or_none, place-within}
use Rattle.pdn_plan.specs.declared.scope.Seen.{Seen}

-- no cause, where nothing is refused
pub no-cause : (cause : Bool) (kind : ℕ) (name : List ℕ) → refuse_if cause kind name ≡ None → cause ≡ false
no-cause true kind name e = absurd cc
no-cause false kind name e = refl

pub both_false : (a b : Bool) → (a || b) ≡ false → (a ≡ false) × (b ≡ false)
both_false true b e = absurd (true≢false e)
both_false false b e = (refl, e)

pub not_false : (a : Bool) → not a ≡ false → a ≡ true
not_false true e = refl
not_false false e = absurd (true≢false e)

-- a sum is on no code
no_sum : (plus : Option ℕ) (k : Kind) → (is_some plus && same_kind k kind.Code) ≡ false → (is_none plus || same_kind k kind.Int) ≡ true
no_sum None k e = refl
no_sum (Some n) kind.Int e = refl
no_sum (Some n) kind.Code e = absurd (true≢false e)

term-placed : (scope : List Seen) (t : SqlTerm) → col_refusal scope t.col ≡ None → sums_code scope t ≡ false → term_fits (scope_kinds scope) (placed_term scope t) ≡ true
term-placed scope t e f = ap₂ (λ a b. a && b)
    (ap (nat_lt (place scope t.col)) (length-map scope (λ s. s.kind)) ∙ lt-ltb (place scope t.col) (length scope) (place-within scope t.col e))
    (no_sum t.plus (col_kind scope t.col) f)

operand-placed : (scope : List Seen) (k : Kind) (o : SqlOperand) → operand_refusal scope o ≡ None → operand_sums_code scope o ≡ false → same_kind k (operand_kind scope o) ≡ true
    → operand_fits (scope_kinds scope) k (placed_operand scope o) ≡ true
operand-placed scope k (written.Term t) e f same = ap₂ (λ a b. a && b) (term-placed scope t e f) same
operand-placed scope k (written.Int n) e f same = same
operand-placed scope k (written.Code c) e f same = same

cmp-placed : (scope : List Seen) (c : SqlCmp) → cmp_refusal scope c ≡ None → cmp_fits (scope_kinds scope) (placed_cmp scope c) ≡ true
cmp-placed scope c e =
    let last : Option _ = or_else (refuse_if (clashes scope c) 4 (col_text c.left.col)) None in
    let left = or_none (col_refusal scope c.left.col) (or_else (operand_refusal scope c.right) last) e in
    let right = or_none (operand_refusal scope c.right) last left.1 in
    let agree = or_none (refuse_if (clashes scope c) 4 (col_text c.left.col)) None right.1 in
    let parts = both_false (sums_code scope c.left || operand_sums_code scope c.right) (not (same_kind (col_kind scope c.left.col) (operand_kind scope c.right))) (no-cause (clashes scope c) 4 (col_text c.left.col) agree.0) in
    let sums = both_false (sums_code scope c.left) (operand_sums_code scope c.right) parts.0 in
    ap₂ (λ a b. a && b)
    (term-placed scope c.left left.0 sums.0)
    (operand-placed scope (col_kind scope c.left.col) c.right right.0 sums.1 (not_false (same_kind (col_kind scope c.left.col) (operand_kind scope c.right)) parts.1))

cmps-placed : (scope : List Seen) (cs : List SqlCmp) → first_of (cmp_refusal scope) cs ≡ None → list_all (cmp_fits (scope_kinds scope)) (map (placed_cmp scope) cs) ≡ true
cmps-placed scope [] e = refl
cmps-placed scope (c ∷ cs) e =
    let here = or_none (cmp_refusal scope c) (first_of (cmp_refusal scope) cs) e in
    ap₂ (λ a b. a && b) (cmp-placed scope c here.0) (cmps-placed scope cs here.1)

pub cond-placed : (scope : List Seen) (clauses : List SqlClause) → cond_refusal scope clauses ≡ None → cond_fits (scope_kinds scope) (placed scope clauses) ≡ true
cond-placed scope [] e = refl
cond-placed scope (c ∷ cs) e =
    let here = or_none (clause_refusal scope c) (cond_refusal scope cs) e in
    ap₂ (λ a b. a && b) (cmps-placed scope c.any here.0) (cond-placed scope cs here.1)
