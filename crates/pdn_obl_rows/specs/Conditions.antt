-- The gates of a condition on the rows of a list, at one of its words.
use Rattle.std.specs.Prelude.{◌≡◌, ℕ, ◌+◌, ◌-◌, ◌^◌, ◌<◌, max, List, [], ◌∷◌, ◌++◌, length, replicate, Option, Some, None}
use Rattle.std.specs.List.{AllByRecursion}
use Rattle.pdn_base.specs.declared.marks.Kind.{Kind}
use Rattle.pdn_base.specs.declared.marks.Kind.TheVariants as kind
use Rattle.pdn_base.specs.declared.cond.Op.{Op}
use Rattle.pdn_base.specs.declared.cond.Op.TheVariants as op
use Rattle.pdn_base.specs.declared.cond.Term.{Term}
use Rattle.pdn_base.specs.declared.cond.Operand.{Operand}
use Rattle.pdn_base.specs.declared.cond.Operand.TheVariants as operand
use Rattle.pdn_base.specs.declared.cond.Cmp.{Cmp}
use Rattle.pdn_circuit.specs.declared.gate.Gate.TheVariants.{And}
use Rattle.pdn_circuit.specs.Blocks.{Making, gives, one, ◌>>=◌}
use Rattle.pdn_circuit.specs.Compare.{zero_gate, one_gate, not_gates, or_gates, equal_gates, less_gates, plus_gates, literal_planes}
use Rattle.pdn_obl_rows.specs.Lists.{PaddedList, width_of, kind_at, column_planes, word_planes}

-- ---- conditions that fit columns
-- a sum is of numbers only
abbrev pub PlusFits : Kind → Option ℕ → Type 0
PlusFits k None = Unit {0}
PlusFits kind.Int (Some n) = n < 2 ^ 32
PlusFits kind.Code (Some n) = ⊥

pub record TermFits (kinds : List Kind) (t : Term) (k : Kind) : Type 0 where
  pub there : t.column < length kinds
  pub kind : kind_at kinds t.column ≡ k
  pub plus : PlusFits k t.plus

abbrev pub OperandFits : List Kind → Operand → Kind → Type 0
OperandFits kinds (operand.Term t) k = TermFits kinds t k
OperandFits kinds (operand.Int n) k = (k ≡ kind.Int) × (n < 2 ^ 32)
OperandFits kinds (operand.Code c) k = (k ≡ kind.Code) × (c < 2 ^ 64)

-- both sides are of the left column's kind
pub record CmpFits (kinds : List Kind) (c : Cmp) : Type 0 where
  pub left : TermFits kinds c.left (kind_at kinds c.left.column)
  pub right : OperandFits kinds c.right (kind_at kinds c.left.column)

abbrev pub ClauseFits : List Kind → List Cmp → Type 0
ClauseFits kinds clause = AllByRecursion (CmpFits kinds) clause

abbrev pub CondFits : List Kind → List (List Cmp) → Type 0
CondFits kinds clauses = AllByRecursion (ClauseFits kinds) clauses

-- ---- gates
abbrev pub and_gates : ℕ → ℕ → Making ℕ
and_gates x y = one (And x y)

-- a column's planes at word j
abbrev pub column_word : PaddedList → ℕ → ℕ → List ℕ
column_word list j column = word_planes j (column_planes list.kinds column list.planes)

abbrev pub added_gates : Option ℕ → List ℕ → Making (List ℕ)
added_gates None planes = gives planes
added_gates (Some n) planes = plus_gates planes n

abbrev pub term_gates : PaddedList → ℕ → Term → Making (List ℕ)
term_gates list j t = added_gates t.plus (column_word list j t.column)

abbrev pub operand_gates : PaddedList → ℕ → Operand → Making (List ℕ)
operand_gates list j (operand.Term t) = term_gates list j t
operand_gates list j (operand.Int n) = gives (literal_planes (width_of kind.Int) n)
operand_gates list j (operand.Code c) = gives (literal_planes (width_of kind.Code) c)

-- zero planes up to a width
abbrev pub filled : ℕ → List ℕ → List ℕ
filled width planes = planes ++ replicate (width - length planes) zero_gate

abbrev pub op_gates : Op → List ℕ → List ℕ → Making ℕ
op_gates op.Eq x y = equal_gates x y
op_gates op.Ne x y = equal_gates x y >>= not_gates
op_gates op.Lt x y = less_gates zero_gate x y
op_gates op.Le x y = less_gates zero_gate y x >>= not_gates
op_gates op.Gt x y = less_gates zero_gate y x
op_gates op.Ge x y = less_gates zero_gate x y >>= not_gates

-- the shorter side is filled
abbrev pub compare_gates : Op → List ℕ → List ℕ → Making ℕ
compare_gates o x y = op_gates o (filled (length y) x) (filled (length x) y)

abbrev pub cmp_gates : PaddedList → ℕ → Cmp → Making ℕ
cmp_gates list j c = do
  x ← term_gates list j c.left
  y ← operand_gates list j c.right
  compare_gates c.op x y

-- each of a list with what came before, from the left
abbrev pub joined_after : {X : Type 0} → (X → Making ℕ) → (ℕ → ℕ → Making ℕ) → ℕ → List X → Making ℕ
joined_after gates both acc [] = gives acc
joined_after gates both acc (x ∷ xs) = do
  next ← gates x
  acc ← both acc next
  joined_after gates both acc xs

-- all of a list; where there is none, this gate
abbrev pub joined_by : {X : Type 0} → (X → Making ℕ) → (ℕ → ℕ → Making ℕ) → ℕ → List X → Making ℕ
joined_by gates both none [] = gives none
joined_by gates both none (x ∷ xs) = do
  acc ← gates x
  joined_after gates both acc xs

-- a clause is the or of its comparisons
abbrev pub clause_gates : PaddedList → ℕ → List Cmp → Making ℕ
clause_gates list j clause = joined_by (cmp_gates list j) or_gates zero_gate clause

-- a condition is the and of its clauses
abbrev pub cond_gates : PaddedList → ℕ → List (List Cmp) → Making ℕ
cond_gates list j clauses = joined_by (clause_gates list j) and_gates one_gate clauses
