-- When a row meets a condition.
use Rattle.std.specs.Prelude.{ℕ, ◌+◌, Bool, List, Option, Some, None}
use Rattle.std.specs.List.{list_any, list_all}
use Rattle.std.proofs.Common.{Ordering}
use Rattle.std.specs.Ordering.{is_eq, is_ne, is_lt, is_le, is_gt, is_ge}
use Rattle.pdn_base.specs.declared.value.Value.{Value}
use Rattle.pdn_base.specs.declared.value.Value.TheVariants as value
use Rattle.pdn_base.specs.declared.cond.Op.{Op}
use Rattle.pdn_base.specs.declared.cond.Op.TheVariants as op
use Rattle.pdn_base.specs.declared.cond.Term.{Term}
use Rattle.pdn_base.specs.declared.cond.Operand.{Operand}
use Rattle.pdn_base.specs.declared.cond.Operand.TheVariants as operand
use Rattle.pdn_base.specs.declared.cond.Cmp.{Cmp}
use Rattle.pdn_base.specs.Values.{value_cmp, cell}

-- a sum of whole numbers, which does not wrap; codes take no sum
abbrev pub plus : Option ℕ → Value → Value
plus None v = v
plus (Some n) (value.Int m) = value.Int (m + n)
plus (Some n) (value.Code c) = value.Code c

abbrev pub term_value : Term → List Value → Value
term_value t row = plus t.plus (cell row t.column)

abbrev pub operand_value : Operand → List Value → Value
operand_value (operand.Term t) row = term_value t row
operand_value (operand.Int n) row = value.Int n
operand_value (operand.Code c) row = value.Code c

abbrev pub answers : Op → Ordering → Bool
answers op.Eq o = is_eq o
answers op.Ne o = is_ne o
answers op.Lt o = is_lt o
answers op.Le o = is_le o
answers op.Gt o = is_gt o
answers op.Ge o = is_ge o

-- the one meaning of a comparison of two values
abbrev pub compares : Op → Value → Value → Bool
compares op x y = answers op (value_cmp x y)

abbrev pub cmp_true : List Value → Cmp → Bool
cmp_true row c = compares c.op (term_value c.left row) (operand_value c.right row)

abbrev pub clause_true : List Value → List Cmp → Bool
clause_true row clause = list_any (cmp_true row) clause

-- every clause has a true comparison
abbrev pub meets : List (List Cmp) → List Value → Bool
meets clauses row = list_all (clause_true row) clauses
