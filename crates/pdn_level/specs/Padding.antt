-- Padded lengths: for how many rows each list has room, by bounds that are public.
use Rattle.std.specs.Prelude.{◌≡◌, ℕ, ◌*◌, ◌==◌, ◌≤◌, Bool, false, cond, List, [], ◌∷◌, ◌++◌, map, length, Option, Some, None}
use Rattle.std.specs.List.{list_all, range_with_len, slice_get}
use Rattle.pdn_base.specs.declared.value.Value.{Value}
use Rattle.pdn_schema.specs.declared.schema.Column.{Column}
use Rattle.pdn_schema.specs.Models.{TableModel, SchemaModel}
use Rattle.pdn_tree.specs.declared.node.Node.{Node, fold-Node}
use Rattle.pdn_tree.specs.declared.node.Node.TheOpen.{Node-F}
use Rattle.pdn_tree.specs.Shapes.{table_columns}
use Rattle.pdn_tree.specs.Meaning.{Rows, mean}
use Rattle.pdn_level.specs.declared.staged.Leaf.{Leaf}
use Rattle.pdn_level.specs.declared.staged.Level.{Level}
use Rattle.pdn_level.specs.declared.staged.Level.TheVariants as level
use Rattle.pdn_level.specs.Links.{slice_at}
use Rattle.pdn_level.specs.Slices.{followed}
use Rattle.pdn_level.specs.Levels.{Survey, survey_step, level_of_node}
use Rattle.pdn_level.specs.Cutting.{at, stands_at}

-- What is known of a list in a unit of one value: for each column, whether it is pinned, so that every row has the value
-- there; and for how many rows there is room.
pub record Padding : Type 0 where
  pub pinned : List Bool
  pub room : ℕ

abbrev pub per_in : Option Column → ℕ
per_in None = 0
per_in (Some column) = column.per

-- in how many rows of a site one value of a table's column may stand
abbrev pub per_of : SchemaModel → ℕ → ℕ → ℕ
per_of schema table column = per_in (slice_get (table_columns schema table) column)

-- a leaf, of so many sites: its traced column is pinned
abbrev pub leaf_padding : SchemaModel → ℕ → ℕ → ℕ → Padding
leaf_padding schema sites table column = record { pinned = map (λ c. c == column) (range_with_len 0 (length (table_columns schema table))); room = sites * per_of schema table column }

-- a Distinct or a Group is cut, where its columns or keys are all pinned: then it has room for one row
abbrev pub cut_room : List Bool → ℕ → ℕ
cut_room pinned room = cond (list_all (λ p. p) pinned) 1 room

abbrev pub padding_step : Node-F Padding → Padding
padding_step (Node-F.Scan table) = record { pinned = []; room = 0 }
padding_step (Node-F.Filter child cond) = child
padding_step (Node-F.Project child columns) = record { pinned = map (slice_at child.pinned) columns; room = child.room }
padding_step (Node-F.Join left right on) = record { pinned = left.pinned ++ right.pinned; room = left.room * right.room }
padding_step (Node-F.Group child keys having) = record { pinned = map (slice_at child.pinned) keys ++ false ∷ []; room = cut_room (map (slice_at child.pinned) keys) child.room }
padding_step (Node-F.Count child) = record { pinned = false ∷ []; room = 1 }
padding_step (Node-F.Distinct child) = record { pinned = child.pinned; room = cut_room child.pinned child.room }
padding_step (Node-F.Number child partition order) = record { pinned = child.pinned ++ false ∷ []; room = child.room }
padding_step (Node-F.Top child order limit) = child

-- the padding of a tree in a unit, where a slice column is followed: 2 sites in a secure unit, 1 in a plain one
abbrev pub padding : SchemaModel → ℕ → Node → ℕ → Padding
padding schema sites n column = (followed schema (leaf_padding schema sites) padding_step n).at column

-- the leaf's rows with this value are no more than so many sites may hold
abbrev pub IsFew : SchemaModel → (ℕ → Rows) → ℕ → Value → Leaf → Type 0
IsFew schema tables sites v leaf = length (at leaf.column v (tables leaf.table)) ≤ sites * per_of schema leaf.table leaf.column

-- ---- the root

abbrev pub rows_in : Option TableModel → ℕ
rows_in None = 0
rows_in (Some table) = table.rows

-- how many rows a site may hold of a table
abbrev pub rows_of : SchemaModel → ℕ → ℕ
rows_of schema table = rows_in (slice_get schema.tables table)

-- What is known of a tree in the root: its survey, and for how many rows its list has room where it stands at a path.
pub record Rooted : Type 0 where
  pub survey : Survey
  pub room : List ℕ → ℕ

-- a Sliced tree has the room of its units together
abbrev pub room_at : Level → ℕ → ℕ → ℕ
room_at level.Local units other = other
room_at level.Sliced units other = units
room_at level.Secure units other = other

abbrev pub rooted_over : (List ℕ → ℕ) → Survey → (List ℕ → ℕ) → Rooted
rooted_over units s room = record { survey = s; room = λ path. room_at s.level (units path) (room path) }

-- the room of what is read at this step of the way
abbrev pub room_below : ℕ → Rooted → List ℕ → ℕ
room_below way child path = child.room (path ++ way ∷ [])

-- a leaf of the root has room for both sites' rows; a Join for all pairs; a Count for one row; all others for what they read
abbrev pub rooted_step : SchemaModel → (List ℕ → ℕ) → Node-F Rooted → Rooted
rooted_step schema units (Node-F.Scan table) = rooted_over units (survey_step schema (Node-F.Scan table)) (λ path. 2 * rows_of schema table)
rooted_step schema units (Node-F.Filter child cond) = rooted_over units (survey_step schema (Node-F.Filter child.survey cond)) (room_below 0 child)
rooted_step schema units (Node-F.Project child columns) = rooted_over units (survey_step schema (Node-F.Project child.survey columns)) (room_below 0 child)
rooted_step schema units (Node-F.Join left right on) = rooted_over units (survey_step schema (Node-F.Join left.survey right.survey on)) (λ path. room_below 0 left path * room_below 1 right path)
rooted_step schema units (Node-F.Group child keys having) = rooted_over units (survey_step schema (Node-F.Group child.survey keys having)) (room_below 0 child)
rooted_step schema units (Node-F.Count child) = rooted_over units (survey_step schema (Node-F.Count child.survey)) (λ path. 1)
rooted_step schema units (Node-F.Distinct child) = rooted_over units (survey_step schema (Node-F.Distinct child.survey)) (room_below 0 child)
rooted_step schema units (Node-F.Number child partition order) = rooted_over units (survey_step schema (Node-F.Number child.survey partition order)) (room_below 0 child)
rooted_step schema units (Node-F.Top child order limit) = rooted_over units (survey_step schema (Node-F.Top child.survey order limit)) (room_below 0 child)

abbrev pub rooted : SchemaModel → (List ℕ → ℕ) → Node → Rooted
rooted schema units = fold-Node Rooted (rooted_step schema units)

-- for how many rows a list in the root has room, where the segment at each path has this room in its units together
abbrev pub root_room : SchemaModel → (List ℕ → ℕ) → Node → ℕ
root_room schema units n = (rooted schema units n).room []

-- each segment of a tree has no more rows than its units have room for
abbrev pub SegmentsFit : SchemaModel → (ℕ → Rows) → (List ℕ → ℕ) → List ℕ → Node → Type 0
SegmentsFit schema tables units path n = (way : List ℕ) (top : Node) → stands_at way n top → level_of_node schema top ≡ level.Sliced → length (mean tables top) ≤ units (path ++ way)
