-- The circuit of a unit: the lists of the leaves, and the operators above them.
use Rattle.std.specs.Prelude.{ℕ, ◌+◌, Bool, true, false, cond, List, [], ◌∷◌, ◌++◌, map, replicate, get_or, Option, Some, None}
use Rattle.std.specs.List.{flat_map, list_all}
use Rattle.pdn_base.specs.declared.marks.Kind.{Kind}
use Rattle.pdn_base.specs.declared.marks.Kind.TheVariants as kind
use Rattle.pdn_base.specs.declared.site.Site.TheVariants.{A, B}
use Rattle.pdn_base.specs.declared.value.Value.{Value}
use Rattle.pdn_schema.specs.Models.{SchemaModel, table_of}
use Rattle.pdn_circuit.specs.Blocks.{Making, gives}
use Rattle.pdn_circuit.specs.Building.{constants}
use Rattle.pdn_circuit.specs.Gates.{Net}
use Rattle.pdn_obl_rows.specs.Lists.{PaddedList, widths}
use Rattle.pdn_obl_rows.specs.Operators.{filter_gates, projected, append_gates, join_gates}
use Rattle.pdn_obl_group.specs.Operators.{distinct_gates, group_gates, count_gates, cut_distinct_gates, cut_group_gates}
use Rattle.pdn_obl_rank.specs.Numbers.{number_gates}
use Rattle.pdn_obl_rank.specs.Tops.{top_gates}
use Rattle.pdn_tree.specs.declared.node.Node.{Node, fold-Node}
use Rattle.pdn_tree.specs.declared.node.Node.TheVariants as node
use Rattle.pdn_tree.specs.declared.node.Node.TheOpen.{Node-F}
use Rattle.pdn_tree.specs.Shapes.{table_columns, kind_at}
use Rattle.pdn_level.specs.declared.staged.Level.{Level}
use Rattle.pdn_level.specs.declared.staged.Level.TheVariants as level
use Rattle.pdn_level.specs.Links.{slice_at}
use Rattle.pdn_level.specs.Slices.{followed}
use Rattle.pdn_level.specs.Levels.{level_of_node}
use Rattle.pdn_site.specs.declared.unit.UnitKind.{UnitKind}
use Rattle.pdn_site.specs.declared.unit.UnitKind.TheVariants.{Plain, Secure, Root}
use Rattle.pdn_site.specs.Laying.{Taken, Laying, nothing, making, next, each_laid, input_list, given_list}
use Rattle.pdn_level.specs.Padding.{Padding, leaf_padding, padding_step, per_of}

abbrev pub table_kinds : SchemaModel → ℕ → List Kind
table_kinds schema table = map (λ c. c.kind) (table_columns schema table)

-- A's list and B's, and then the two as one
abbrev pub leaf_list : List Kind → ℕ → Laying PaddedList
leaf_list kinds rows = next (input_list A kinds rows) (λ a. next (input_list B kinds rows) (λ b. making (append_gates (a ∷ b ∷ []))))

-- ---- the tree of a segment, where its slice column is followed

-- What is laid of a tree: of a Local one a leaf of its kinds of columns, in which a site has so many rows.
pub record Laid : Type 0 where
  pub is_local : Bool
  pub kinds : List Kind
  pub rows : ℕ
  pub padding : Padding
  pub list : Laying PaddedList

abbrev pub laid_leaf : SchemaModel → ℕ → ℕ → Laid
laid_leaf schema table column = record {
  is_local = true;
  kinds = table_kinds schema table;
  rows = per_of schema table column;
  padding = leaf_padding schema 2 table column;
  list = leaf_list (table_kinds schema table) (per_of schema table column);
}

-- an operator over a list
abbrev pub then_gates : Laying PaddedList → (PaddedList → Making PaddedList) → Laying PaddedList
then_gates list gates = next list (λ l. making (gates l))

-- a Filter or a Project: over a Local tree it is part of the leaf
abbrev pub laid_part : Laid → List Kind → Padding → (PaddedList → Making PaddedList) → Laid
laid_part child kinds padding gates = record {
  is_local = child.is_local;
  kinds = kinds;
  rows = child.rows;
  padding = padding;
  list = cond child.is_local (leaf_list kinds child.rows) (then_gates child.list gates);
}

abbrev pub laid_over : Laid → List Kind → Padding → (PaddedList → Making PaddedList) → Laid
laid_over child kinds padding gates = record { is_local = false; kinds = kinds; rows = 0; padding = padding; list = then_gates child.list gates }

-- where all groups, or all rows that are kept once, are cut to a value, there is one row at most
abbrev pub grouped_gates : Option Value → List ℕ → Option ℕ → PaddedList → Making PaddedList
grouped_gates (Some v) keys having list = cut_group_gates list keys v having
grouped_gates None keys having list = group_gates list keys having

abbrev pub once_gates : Option Value → PaddedList → Making PaddedList
once_gates (Some v) list = cut_distinct_gates list v
once_gates None list = distinct_gates list

-- what an operator makes over the one list that it reads; a Scan reads none, and a Join two
abbrev pub above_gates : {X : Type 0} → Option Value → Node-F X → PaddedList → Making PaddedList
above_gates cut (Node-F.Scan table) = gives
above_gates cut (Node-F.Filter child cond) = λ l. filter_gates l cond
above_gates cut (Node-F.Project child columns) = λ l. gives (projected l columns)
above_gates cut (Node-F.Join left right on) = gives
above_gates cut (Node-F.Group child keys having) = grouped_gates cut keys having
above_gates cut (Node-F.Count child) = count_gates
above_gates cut (Node-F.Distinct child) = once_gates cut
above_gates cut (Node-F.Number child partition order) = λ l. number_gates l partition order
above_gates cut (Node-F.Top child order limit) = λ l. top_gates l order limit

abbrev pub counted_kinds : List Kind → List ℕ → List Kind
counted_kinds kinds keys = map (kind_at kinds) keys ++ kind.Int ∷ []

abbrev pub all_pinned : List Bool → Bool
all_pinned columns = list_all (λ p. p) columns

-- whether all groups of an operator, or all rows that it keeps once, hold the unit's value
abbrev pub is_cut : Node-F Padding → Bool
is_cut (Node-F.Scan table) = false
is_cut (Node-F.Filter below cond) = false
is_cut (Node-F.Project below columns) = false
is_cut (Node-F.Join left right on) = false
is_cut (Node-F.Group below keys having) = all_pinned (map (slice_at below.pinned) keys)
is_cut (Node-F.Count below) = false
is_cut (Node-F.Distinct below) = all_pinned below.pinned
is_cut (Node-F.Number below partition order) = false
is_cut (Node-F.Top below order limit) = false

abbrev pub cut_by : Bool → Value → Option Value
cut_by cut v = cond cut (Some v) None

-- in the unit of this value
abbrev pub laid_step : Value → Node-F Laid → Laid
laid_step v (Node-F.Scan table) = record { is_local = false; kinds = []; rows = 0; padding = padding_step (Node-F.Scan table); list = making (gives (record { len = 0; valid = []; kinds = []; planes = [] })) }
laid_step v (Node-F.Filter child cond) = laid_part child child.kinds (padding_step (Node-F.Filter child.padding cond)) (above_gates None (Node-F.Filter child cond))
laid_step v (Node-F.Project child columns) = laid_part child (map (kind_at child.kinds) columns) (padding_step (Node-F.Project child.padding columns)) (above_gates None (Node-F.Project child columns))
laid_step v (Node-F.Join left right on) = record {
  is_local = false;
  kinds = left.kinds ++ right.kinds;
  rows = 0;
  padding = padding_step (Node-F.Join left.padding right.padding on);
  list = next left.list (λ l. next right.list (λ r. making (join_gates l r on)));
}
laid_step v (Node-F.Group child keys having) = laid_over child (counted_kinds child.kinds keys) (padding_step (Node-F.Group child.padding keys having)) (above_gates (cut_by (is_cut (Node-F.Group child.padding keys having)) v) (Node-F.Group child keys having))
laid_step v (Node-F.Count child) = laid_over child (kind.Int ∷ []) (padding_step (Node-F.Count child.padding)) (above_gates None (Node-F.Count child))
laid_step v (Node-F.Distinct child) = laid_over child child.kinds (padding_step (Node-F.Distinct child.padding)) (above_gates (cut_by (is_cut (Node-F.Distinct child.padding)) v) (Node-F.Distinct child))
laid_step v (Node-F.Number child partition order) = laid_over child (child.kinds ++ kind.Int ∷ []) (padding_step (Node-F.Number child.padding partition order)) (above_gates None (Node-F.Number child partition order))
laid_step v (Node-F.Top child order limit) = laid_over child child.kinds (padding_step (Node-F.Top child.padding order limit)) (above_gates None (Node-F.Top child order limit))

-- the list of a secure unit of this value, whose segment has this top and slice column
abbrev pub unit_list : SchemaModel → Value → Node → ℕ → Laying PaddedList
unit_list schema v top column = let laid : Laid = (followed schema (laid_leaf schema) (laid_step v) top).at column in laid.list

-- ---- the root

-- a unit as the root reads it
pub record Part : Type 0 where
  pub kind : UnitKind
  pub len : ℕ

-- a plain unit's rows come from its site, a secure unit's as given words
abbrev pub part_by : UnitKind → List Kind → ℕ → Laying PaddedList
part_by (Plain site) kinds len = input_list site kinds len
part_by Secure kinds len = given_list kinds len
part_by Root kinds len = given_list kinds len

abbrev pub part_list : List Kind → Part → Laying PaddedList
part_list kinds p = part_by p.kind kinds p.len

abbrev pub no_rows : List Kind → PaddedList
no_rows kinds = record { len = 0; valid = []; kinds = kinds; planes = replicate (widths kinds) [] }

abbrev pub joined_parts : List Kind → List PaddedList → Making PaddedList
joined_parts kinds [] = gives (no_rows kinds)
joined_parts kinds (l ∷ ls) = append_gates (l ∷ ls)

abbrev pub past_segment : Taken → Taken
past_segment taken = record { a = taken.a; b = taken.b; given = taken.given; segments = taken.segments + 1 }

-- the results of the next segment's units, one after the other
abbrev pub segment_list : List (List Part) → List Kind → Laying PaddedList
segment_list segments kinds taken = next (each_laid (part_list kinds) (get_or segments taken.segments [])) (λ lists. making (joined_parts kinds lists)) (past_segment taken)

-- What is laid of a tree in the root: of a Local one a leaf, in which a site has so many rows.
pub record Rooted : Type 0 where
  pub tree : Node
  pub kinds : List Kind
  pub rows : ℕ
  pub list : Laying PaddedList

abbrev pub by_level : Level → Laying PaddedList → Laying PaddedList → Laying PaddedList → Laying PaddedList
by_level level.Local leaf segment above = leaf
by_level level.Sliced leaf segment above = segment
by_level level.Secure leaf segment above = above

abbrev pub rooted : SchemaModel → List (List Part) → Node → List Kind → ℕ → Laying PaddedList → Rooted
rooted schema segments tree kinds rows above = record {
  tree = tree;
  kinds = kinds;
  rows = rows;
  list = by_level (level_of_node schema tree) (leaf_list kinds rows) (segment_list segments kinds) above;
}

abbrev pub root_step : SchemaModel → List (List Part) → Node-F Rooted → Rooted
root_step schema segments (Node-F.Scan table) = rooted schema segments (node.Scan table) (table_kinds schema table) (table_of schema table).rows (making (gives (no_rows [])))
root_step schema segments (Node-F.Filter child cond) = rooted schema segments (node.Filter child.tree cond) child.kinds child.rows (then_gates child.list (above_gates None (Node-F.Filter child cond)))
root_step schema segments (Node-F.Project child columns) = rooted schema segments (node.Project child.tree columns) (map (kind_at child.kinds) columns) child.rows (then_gates child.list (above_gates None (Node-F.Project child columns)))
root_step schema segments (Node-F.Join left right on) = rooted schema segments (node.Join left.tree right.tree on) (left.kinds ++ right.kinds) 0 (next left.list (λ l. next right.list (λ r. making (join_gates l r on))))
root_step schema segments (Node-F.Group child keys having) = rooted schema segments (node.Group child.tree keys having) (counted_kinds child.kinds keys) 0 (then_gates child.list (above_gates None (Node-F.Group child keys having)))
root_step schema segments (Node-F.Count child) = rooted schema segments (node.Count child.tree) (kind.Int ∷ []) 0 (then_gates child.list (above_gates None (Node-F.Count child)))
root_step schema segments (Node-F.Distinct child) = rooted schema segments (node.Distinct child.tree) child.kinds 0 (then_gates child.list (above_gates None (Node-F.Distinct child)))
root_step schema segments (Node-F.Number child partition order) = rooted schema segments (node.Number child.tree partition order) (child.kinds ++ kind.Int ∷ []) 0 (then_gates child.list (above_gates None (Node-F.Number child partition order)))
root_step schema segments (Node-F.Top child order limit) = rooted schema segments (node.Top child.tree order limit) child.kinds 0 (then_gates child.list (above_gates None (Node-F.Top child order limit)))

-- the root's list, where these are the units of each segment
abbrev pub root_list : SchemaModel → List (List Part) → Node → Laying PaddedList
root_list schema segments root = let top : Rooted = fold-Node Rooted (root_step schema segments) root in top.list

-- ---- circuits

-- the valid words of a list and then its planes
abbrev pub list_gates : PaddedList → List ℕ
list_gates list = list.valid ++ flat_map (λ plane. plane) list.planes

abbrev pub net_of : Bool → Laying PaddedList → Net
net_of released laying =
    let block = laying nothing 2 in
    record { gates = constants ++ block.gates; outputs = list_gates block.result.0; released = released }
