-- How binding looks a name up, and what it refuses there.
use Rattle.std.specs.Prelude.{ℕ, zero, suc, Bool, true, false, not, ◌&&◌, ◌||◌, cond, List, [], ◌∷◌, ◌++◌, map, count_by, Option, Some, None, is_some}
use Rattle.std.specs.Str.{bytes_eq}
use Rattle.pdn_base.specs.declared.marks.Kind.{Kind}
use Rattle.pdn_base.specs.declared.marks.Kind.TheVariants as kind
use Rattle.pdn_base.specs.declared.cond.Term.{Term}
use Rattle.pdn_base.specs.declared.cond.Operand.{Operand}
use Rattle.pdn_base.specs.declared.cond.Operand.TheVariants as operand
use Rattle.pdn_base.specs.declared.cond.Cmp.{Cmp}
use Rattle.pdn_sql.specs.declared.query.Name.{Name}
use Rattle.pdn_sql.specs.declared.query.Col.{Col}
use Rattle.pdn_sql.specs.declared.query.SqlTerm.{SqlTerm}
use Rattle.pdn_sql.specs.declared.query.SqlOperand.{SqlOperand}
use Rattle.pdn_sql.specs.declared.query.SqlOperand.TheVariants as written
use Rattle.pdn_sql.specs.declared.query.SqlCmp.{SqlCmp}
use Rattle.pdn_sql.specs.declared.query.SqlClause.{SqlClause}
use Rattle.pdn_plan.specs.declared.scope.Refusal.{Refusal}
use Rattle.pdn_plan.specs.declared.scope.Seen.{Seen}
use Rattle.pdn_tree.specs.Shapes.{kind_at, same_kind}
use Rattle.pdn_tree.specs.Columns.{Clauses}

-- the first of several refusals that is one
abbrev pub or_else : Option Refusal → Option Refusal → Option Refusal
or_else None next = next
or_else (Some r) next = Some r

abbrev pub first : List (Option Refusal) → Option Refusal
first [] = None
first (r ∷ rs) = or_else r (first rs)

-- the first that a list's elements give
abbrev pub first_of : {X : Type 0} → (X → Option Refusal) → List X → Option Refusal
first_of f [] = None
first_of f (x ∷ xs) = or_else (f x) (first_of f xs)

abbrev pub refuse_if : Bool → ℕ → List ℕ → Option Refusal
refuse_if true kind name = Some (record { kind = kind; name = name })
refuse_if false kind name = None

abbrev pub of_fits : Option Name → List ℕ → Bool
of_fits None alias = true
of_fits (Some n) alias = bytes_eq n.text alias

-- whether a column as written means this one
abbrev pub col_fits : Col → Seen → Bool
col_fits col s = of_fits col.of s.of && bytes_eq col.name.text s.name

-- a column as written, with its source if that is written
abbrev pub with_source : Option Name → List ℕ → List ℕ
with_source None name = name
with_source (Some n) name = n.text ++ 46 ∷ name

abbrev pub col_text : Col → List ℕ
col_text col = with_source col.of col.name.text

-- a name is to mean exactly one thing: none is kind 2, several are kind 3
abbrev pub by_count : ℕ → List ℕ → Option Refusal
by_count zero name = Some (record { kind = 2; name = name })
by_count (suc zero) name = None
by_count (suc (suc n)) name = Some (record { kind = 3; name = name })

abbrev pub col_refusal : List Seen → Col → Option Refusal
col_refusal scope col = by_count (count_by (col_fits col) scope) (col_text col)

-- the place of the column that is meant
abbrev pub place : List Seen → Col → ℕ
place [] col = 0
place (s ∷ ss) col = cond (col_fits col s) 0 (suc (place ss col))

abbrev pub scope_kinds : List Seen → List Kind
scope_kinds scope = map (λ s. s.kind) scope

abbrev pub col_kind : List Seen → Col → Kind
col_kind scope col = kind_at (scope_kinds scope) (place scope col)

abbrev pub sums_code : List Seen → SqlTerm → Bool
sums_code scope t = is_some t.plus && same_kind (col_kind scope t.col) kind.Code

abbrev pub operand_refusal : List Seen → SqlOperand → Option Refusal
operand_refusal scope (written.Term t) = col_refusal scope t.col
operand_refusal scope (written.Int n) = None
operand_refusal scope (written.Code c) = None

abbrev pub operand_kind : List Seen → SqlOperand → Kind
operand_kind scope (written.Term t) = col_kind scope t.col
operand_kind scope (written.Int n) = kind.Int
operand_kind scope (written.Code c) = kind.Code

abbrev pub operand_sums_code : List Seen → SqlOperand → Bool
operand_sums_code scope (written.Term t) = sums_code scope t
operand_sums_code scope (written.Int n) = false
operand_sums_code scope (written.Code c) = false

-- a sum on a code, or two sides of different kinds
abbrev pub clashes : List Seen → SqlCmp → Bool
clashes scope c = (sums_code scope c.left || operand_sums_code scope c.right) || not (same_kind (col_kind scope c.left.col) (operand_kind scope c.right))

-- a comparison: its left column, its right one, and then whether the sides can be compared
abbrev pub cmp_refusal : List Seen → SqlCmp → Option Refusal
cmp_refusal scope c = first (
    col_refusal scope c.left.col
    ∷ operand_refusal scope c.right
    ∷ refuse_if (clashes scope c) 4 (col_text c.left.col)
    ∷ [])

abbrev pub clause_refusal : List Seen → SqlClause → Option Refusal
clause_refusal scope clause = first_of (cmp_refusal scope) clause.any

abbrev pub cond_refusal : List Seen → List SqlClause → Option Refusal
cond_refusal scope clauses = first_of (clause_refusal scope) clauses

-- ---- each name replaced by the place of what it means

abbrev pub placed_term : List Seen → SqlTerm → Term
placed_term scope t = record { column = place scope t.col; plus = t.plus }

abbrev pub placed_operand : List Seen → SqlOperand → Operand
placed_operand scope (written.Term t) = operand.Term (placed_term scope t)
placed_operand scope (written.Int n) = operand.Int n
placed_operand scope (written.Code c) = operand.Code c

abbrev pub placed_cmp : List Seen → SqlCmp → Cmp
placed_cmp scope c = record { left = placed_term scope c.left; op = c.op; right = placed_operand scope c.right }

abbrev pub placed_clause : List Seen → SqlClause → List Cmp
placed_clause scope clause = map (placed_cmp scope) clause.any

abbrev pub placed : List Seen → List SqlClause → Clauses
placed scope clauses = map (placed_clause scope) clauses
