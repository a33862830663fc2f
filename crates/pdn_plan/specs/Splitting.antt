-- Which clauses go to which source, and which columns are kept.
use Rattle.std.specs.Prelude.{ℕ, ◌+◌, ◌-◌, nat_lt, nat_le, ◌&&◌, not, Bool, true, List, [], ◌∷◌, ◌++◌, filter}
use Rattle.std.specs.List.{list_all, range_with_len, flat_map}
use Rattle.pdn_base.specs.declared.cond.Operand.{Operand}
use Rattle.pdn_base.specs.declared.cond.Operand.TheVariants as operand
use Rattle.pdn_base.specs.declared.cond.Cmp.{Cmp}
use Rattle.pdn_tree.specs.declared.node.Node.{Node}
use Rattle.pdn_plan.specs.declared.scope.Bound.{Bound}
use Rattle.pdn_plan.specs.declared.split.Renaming.{Renaming}
use Rattle.pdn_plan.specs.declared.split.Renaming.TheVariants as renaming
use Rattle.pdn_tree.specs.Columns.{Clauses, clauses_at, place_in}

-- each column that is named passes the test
abbrev pub operand_passes : (ℕ → Bool) → Operand → Bool
operand_passes p (operand.Term t) = p t.column
operand_passes p (operand.Int n) = true
operand_passes p (operand.Code c) = true

abbrev pub cmp_passes : (ℕ → Bool) → Cmp → Bool
cmp_passes p c = p c.left.column && operand_passes p c.right

abbrev pub clause_passes : (ℕ → Bool) → List Cmp → Bool
clause_passes p clause = list_all (cmp_passes p) clause

-- the columns that clauses name
abbrev pub operand_columns : Operand → List ℕ
operand_columns (operand.Term t) = t.column ∷ []
operand_columns (operand.Int n) = []
operand_columns (operand.Code c) = []

abbrev pub cmp_columns : Cmp → List ℕ
cmp_columns c = c.left.column ∷ operand_columns c.right

abbrev pub clauses_columns : Clauses → List ℕ
clauses_columns clauses = flat_map (flat_map cmp_columns) clauses

-- A source as it is planned: besides, the clauses on it alone and the columns of it that are kept, by its own places.
pub record Part : Type 0 where
  pub plan : Node
  pub width : ℕ
  pub local : Clauses
  pub keep : List ℕ
  pub on : Clauses

-- the places of a source that begins at `from`
abbrev pub is_of : ℕ → ℕ → ℕ → Bool
is_of from width column = nat_le from column && nat_lt column (from + width)

-- the WHERE clauses on one source alone go to it, by its own places
abbrev pub local_to : ℕ → ℕ → Clauses → Clauses
local_to from width asked = clauses_at (λ c. c - from) (filter (clause_passes (is_of from width)) asked)

abbrev pub left_by : ℕ → ℕ → Clauses → Clauses
left_by from width asked = filter (λ clause. not (clause_passes (is_of from width) clause)) asked

-- the columns of a source that are needed
abbrev pub kept_of : (ℕ → Bool) → ℕ → ℕ → List ℕ
kept_of needed from width = filter (λ c. needed (from + c)) (range_with_len 0 width)

abbrev pub split : (ℕ → Bool) → ℕ → Clauses → List Bound → List Part
split needed from asked [] = []
split needed from asked (b ∷ bs) = record {
  plan = b.plan;
  width = b.width;
  local = local_to from b.width asked;
  keep = kept_of needed from b.width;
  on = b.on;
} ∷ split needed (from + b.width) (left_by from b.width asked) bs

-- the WHERE clauses that go to no source
abbrev pub left_over : ℕ → Clauses → List Bound → Clauses
left_over from asked [] = asked
left_over from asked (b ∷ bs) = left_over (from + b.width) (left_by from b.width asked) bs

-- all ON clauses
abbrev pub ons : List Bound → Clauses
ons [] = []
ons (b ∷ bs) = b.on ++ ons bs

-- columns by their own source's places, or by their places among those that are kept
abbrev pub renamed : Renaming → ℕ → ℕ
renamed (renaming.Back from) = λ c. c - from
renamed (renaming.Among kept) = place_in kept
