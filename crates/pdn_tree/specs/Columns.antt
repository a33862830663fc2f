-- Columns named by their place in a wide row, and by their place in a row cut from it.
use Rattle.std.specs.Prelude.{◌≡◌, ℕ, suc, ◌+◌, ◌<◌, ◌==◌, Bool, true, cond, List, [], ◌∷◌, map, length}
use Rattle.std.specs.List.{list_any, AllByRecursion}
use Rattle.pdn_base.specs.declared.cond.Term.{Term}
use Rattle.pdn_base.specs.declared.cond.Operand.{Operand}
use Rattle.pdn_base.specs.declared.cond.Operand.TheVariants as operand
use Rattle.pdn_base.specs.declared.cond.Cmp.{Cmp}
use Rattle.pdn_tree.specs.Meaning.{Rows}

-- clauses of which each needs one true comparison
abbrev pub Clauses : Type 0
Clauses = List (List Cmp)

-- a term, comparison, clause with each column c renamed to f c
abbrev pub term_at : (ℕ → ℕ) → Term → Term
term_at f t = record { column = f t.column; plus = t.plus }

abbrev pub operand_at : (ℕ → ℕ) → Operand → Operand
operand_at f (operand.Term t) = operand.Term (term_at f t)
operand_at f (operand.Int n) = operand.Int n
operand_at f (operand.Code c) = operand.Code c

abbrev pub cmp_at : (ℕ → ℕ) → Cmp → Cmp
cmp_at f c = record { left = term_at f c.left; op = c.op; right = operand_at f c.right }

abbrev pub clauses_at : (ℕ → ℕ) → Clauses → Clauses
clauses_at f clauses = map (map (cmp_at f)) clauses

-- each column that is named is one of P
abbrev pub OperandNames : (ℕ → Type 0) → Operand → Type 0
OperandNames P (operand.Term t) = P t.column
OperandNames P (operand.Int n) = Unit {0}
OperandNames P (operand.Code c) = Unit {0}

abbrev pub CmpNames : (ℕ → Type 0) → Cmp → Type 0
CmpNames P c = P c.left.column × OperandNames P c.right

abbrev pub Names : (ℕ → Type 0) → Clauses → Type 0
Names P clauses = AllByRecursion (AllByRecursion (CmpNames P)) clauses

-- where a column stands among those that are kept
abbrev pub place_in : List ℕ → ℕ → ℕ
place_in [] column = 0
place_in (k ∷ ks) column = cond (k == column) 0 (suc (place_in ks column))

-- whether a column is one of these
abbrev pub has : List ℕ → ℕ → Bool
has kept column = list_any (λ k. k == column) kept

abbrev pub Has : List ℕ → ℕ → Type 0
Has kept column = has kept column ≡ true

abbrev pub shifted : ℕ → List ℕ → List ℕ
shifted by columns = map (λ c. by + c) columns

abbrev pub Below : ℕ → List ℕ → Type 0
Below n columns = AllByRecursion (λ c. c < n) columns

abbrev pub Wide : ℕ → Rows → Type 0
Wide width rows = AllByRecursion (λ row. length row ≡ width) rows
