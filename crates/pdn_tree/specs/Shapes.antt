-- What a tree reads and gives, apart from rows: its columns' kinds and labels, its size, and whether it fits a schema.
use Rattle.std.specs.Prelude.{ℕ, ◌+◌, Bool, true, false, not, ◌&&◌, ◌||◌, nat_lt, nat_le, cond, List, [], ◌∷◌, ◌++◌, map, length, get_or, Option, Some, None, is_none, slice_get}
use Rattle.std.specs.List.{list_all}
use Rattle.pdn_base.specs.declared.marks.Kind.{Kind}
use Rattle.pdn_base.specs.declared.marks.Kind.TheVariants as kind
use Rattle.pdn_base.specs.declared.marks.Label.{Label}
use Rattle.pdn_base.specs.declared.marks.Label.TheVariants as label
use Rattle.pdn_base.specs.declared.order.Key.{Key}
use Rattle.pdn_base.specs.declared.cond.Term.{Term}
use Rattle.pdn_base.specs.declared.cond.Operand.{Operand}
use Rattle.pdn_base.specs.declared.cond.Operand.TheVariants as operand
use Rattle.pdn_base.specs.declared.cond.Cmp.{Cmp}
use Rattle.pdn_schema.specs.declared.schema.Column.{Column}
use Rattle.pdn_schema.specs.Models.{TableModel, SchemaModel}
use Rattle.pdn_tree.specs.declared.node.Node.{Node, fold-Node, out-Node}
use Rattle.pdn_tree.specs.declared.node.Node.TheOpen.{Node-F}

-- the columns of a table, by its place in the schema; of no table, none
abbrev pub columns_in : Option TableModel → List Column
columns_in None = []
columns_in (Some t) = t.columns

abbrev pub table_columns : SchemaModel → ℕ → List Column
table_columns schema table = columns_in (slice_get schema.tables table)

-- ---- labels

-- the label of a column; of no column, private
abbrev pub label_at : List Label → ℕ → Label
label_at labels column = get_or labels column label.Private

abbrev pub is_public : Label → Bool
is_public label.Public = true
is_public label.Protected = false
is_public label.Private = false

-- the greater of two labels, public being the least and private the greatest
abbrev pub higher : Label → Label → Label
higher label.Public l = l
higher label.Protected label.Private = label.Private
higher label.Protected l = label.Protected
higher label.Private l = label.Private

-- the greatest of some labels; public, where there is none
abbrev pub highest : List Label → Label
highest [] = label.Public
highest (l ∷ ls) = higher l (highest ls)

-- a group that has enough rows opens its protected keys
abbrev pub opened : Label → Label
opened label.Public = label.Public
opened label.Protected = label.Public
opened label.Private = label.Private

-- HAVING asks for at least as many rows as the floor
abbrev pub reaches_floor : ℕ → Option ℕ → Bool
reaches_floor floor None = false
reaches_floor floor (Some n) = nat_le floor n

-- the label of a count beside keys, where HAVING doesn't reach the floor
abbrev pub count_label : List Label → Label
count_label keys = cond (list_all is_public keys) label.Public label.Private

abbrev pub group_labels : Bool → List Label → List Label
group_labels true keys = map opened keys ++ label.Public ∷ []
group_labels false keys = keys ++ count_label keys ∷ []

abbrev pub key_columns : List Key → List ℕ
key_columns order = map (λ k. k.column) order

abbrev pub label_step : SchemaModel → Node-F (List Label) → List Label
label_step schema (Node-F.Scan table) = map (λ c. c.mark) (table_columns schema table)
label_step schema (Node-F.Filter child cond) = child
label_step schema (Node-F.Project child columns) = map (label_at child) columns
label_step schema (Node-F.Join left right on) = left ++ right
label_step schema (Node-F.Group child keys having) = group_labels (reaches_floor schema.floor having) (map (label_at child) keys)
label_step schema (Node-F.Count child) = label.Public ∷ []
label_step schema (Node-F.Distinct child) = child
label_step schema (Node-F.Number child partition order) = child ++ higher (highest (map (label_at child) partition)) (highest (map (label_at child) (key_columns order))) ∷ []
label_step schema (Node-F.Top child order limit) = child

-- the label of each column that a tree gives
abbrev pub labels : SchemaModel → Node → List Label
labels schema = fold-Node (List Label) (label_step schema)

-- ---- the size of a tree

abbrev pub node_step : Node-F ℕ → ℕ
node_step (Node-F.Scan table) = 1
node_step (Node-F.Filter child cond) = 1 + child
node_step (Node-F.Project child columns) = 1 + child
node_step (Node-F.Join left right on) = 1 + (left + right)
node_step (Node-F.Group child keys having) = 1 + child
node_step (Node-F.Count child) = 1 + child
node_step (Node-F.Distinct child) = 1 + child
node_step (Node-F.Number child partition order) = 1 + child
node_step (Node-F.Top child order limit) = 1 + child

abbrev pub nodes : Node → ℕ
nodes = fold-Node ℕ node_step

abbrev pub join_step : Node-F Bool → Bool
join_step (Node-F.Scan table) = false
join_step (Node-F.Filter child cond) = child
join_step (Node-F.Project child columns) = child
join_step (Node-F.Join left right on) = true
join_step (Node-F.Group child keys having) = child
join_step (Node-F.Count child) = child
join_step (Node-F.Distinct child) = child
join_step (Node-F.Number child partition order) = child
join_step (Node-F.Top child order limit) = child

-- whether a Join is anywhere in it
abbrev pub has_join : Node → Bool
has_join = fold-Node Bool join_step

abbrev pub top_step : Node-F ℕ → ℕ
top_step (Node-F.Scan table) = 0
top_step (Node-F.Filter child cond) = child
top_step (Node-F.Project child columns) = child
top_step (Node-F.Join left right on) = left + right
top_step (Node-F.Group child keys having) = child
top_step (Node-F.Count child) = child
top_step (Node-F.Distinct child) = child
top_step (Node-F.Number child partition order) = child
top_step (Node-F.Top child order limit) = 1 + child

-- how many Tops are in it
abbrev pub tops : Node → ℕ
tops = fold-Node ℕ top_step

abbrev pub is_top_layer : Node-F Node → Bool
is_top_layer (Node-F.Scan table) = false
is_top_layer (Node-F.Filter child cond) = false
is_top_layer (Node-F.Project child columns) = false
is_top_layer (Node-F.Join left right on) = false
is_top_layer (Node-F.Group child keys having) = false
is_top_layer (Node-F.Count child) = false
is_top_layer (Node-F.Distinct child) = false
is_top_layer (Node-F.Number child partition order) = false
is_top_layer (Node-F.Top child order limit) = true

abbrev pub is_top : Node → Bool
is_top n = is_top_layer (out-Node n)

-- ---- fitting a schema

-- the kind of a column; of no column, a number
abbrev pub kind_at : List Kind → ℕ → Kind
kind_at kinds column = get_or kinds column kind.Int

abbrev pub same_kind : Kind → Kind → Bool
same_kind kind.Int kind.Int = true
same_kind kind.Code kind.Code = true
same_kind k l = false

abbrev pub all_within : List Kind → List ℕ → Bool
all_within kinds columns = list_all (λ c. nat_lt c (length kinds)) columns

-- a column that is there, and nothing added to a code
abbrev pub term_fits : List Kind → Term → Bool
term_fits kinds t = nat_lt t.column (length kinds) && (is_none t.plus || same_kind (kind_at kinds t.column) kind.Int)

abbrev pub operand_fits : List Kind → Kind → Operand → Bool
operand_fits kinds k (operand.Term t) = term_fits kinds t && same_kind k (kind_at kinds t.column)
operand_fits kinds k (operand.Int n) = same_kind k kind.Int
operand_fits kinds k (operand.Code c) = same_kind k kind.Code

abbrev pub cmp_fits : List Kind → Cmp → Bool
cmp_fits kinds c = term_fits kinds c.left && operand_fits kinds (kind_at kinds c.left.column) c.right

abbrev pub cond_fits : List Kind → List (List Cmp) → Bool
cond_fits kinds clauses = list_all (list_all (cmp_fits kinds)) clauses

-- What a tree gives by a schema: its columns' kinds, whether a Join is in it, and whether every table and column that it
-- names is there, the kinds agree, no node has more than 16 columns, and no Group, Count or Number has a Join below it.
pub record Shape : Type 0 where
  pub kinds : List Kind
  pub joins : Bool
  pub sound : Bool

abbrev pub shaped : List Kind → Bool → Bool → Shape
shaped kinds joins sound = record { kinds = kinds; joins = joins; sound = sound && nat_le (length kinds) 16 }

abbrev pub shape_step : SchemaModel → Node-F Shape → Shape
shape_step schema (Node-F.Scan table) = shaped (map (λ c. c.kind) (table_columns schema table)) false (nat_lt table (length schema.tables))
shape_step schema (Node-F.Filter child cond) = shaped child.kinds child.joins (child.sound && cond_fits child.kinds cond)
shape_step schema (Node-F.Project child columns) = shaped (map (kind_at child.kinds) columns) child.joins (child.sound && all_within child.kinds columns)
shape_step schema (Node-F.Join left right on) = shaped (left.kinds ++ right.kinds) true ((left.sound && right.sound) && cond_fits (left.kinds ++ right.kinds) on)
shape_step schema (Node-F.Group child keys having) = shaped (map (kind_at child.kinds) keys ++ kind.Int ∷ []) child.joins ((child.sound && all_within child.kinds keys) && not child.joins)
shape_step schema (Node-F.Count child) = shaped (kind.Int ∷ []) child.joins (child.sound && not child.joins)
shape_step schema (Node-F.Distinct child) = shaped child.kinds child.joins child.sound
shape_step schema (Node-F.Number child partition order) = shaped (child.kinds ++ kind.Int ∷ []) child.joins ((child.sound && all_within child.kinds (partition ++ key_columns order)) && not child.joins)
shape_step schema (Node-F.Top child order limit) = shaped child.kinds child.joins (child.sound && all_within child.kinds (key_columns order))

abbrev pub shape : SchemaModel → Node → Shape
shape schema = fold-Node Shape (shape_step schema)

-- the kind of each column that a tree gives
abbrev pub kinds : SchemaModel → Node → List Kind
kinds schema n = (shape schema n).kinds

-- a tree fits a schema: it is sound by it, and has at most 32 nodes
abbrev pub fits : SchemaModel → Node → Bool
fits schema n = (shape schema n).sound && nat_le (nodes n) 32
