-- What a tree means where its leaves are cut at one value, and what it is for slices to be sound.
use Rattle.std.specs.Prelude.{◌≡◌, ℕ, zero, suc, Bool, true, List, length, map, filter, count_by, Option, Some, None, [], ◌∷◌}
use Rattle.std.specs.List.{flat_map, AllByRecursion}
use Rattle.std.specs.Ordering.{eq_by_cmp}
use Rattle.pdn_base.specs.declared.value.Value.{Value}
use Rattle.pdn_base.specs.Values.{value_cmp, cell}
use Rattle.pdn_base.specs.Operators.{SameRows}
use Rattle.pdn_schema.specs.Models.{SchemaModel}
use Rattle.pdn_tree.specs.declared.node.Node.{Node, out-Node}
use Rattle.pdn_tree.specs.declared.node.Node.TheOpen.{Node-F}
use Rattle.pdn_tree.specs.Shapes.{is_public, table_columns}
use Rattle.pdn_tree.specs.Meaning.{Rows, mean, mean_step}
use Rattle.pdn_tree.specs.Columns.{Wide}
use Rattle.pdn_level.specs.declared.staged.Level.TheVariants as level
use Rattle.pdn_level.specs.declared.staged.Leaf.{Leaf}
use Rattle.pdn_level.specs.Models.{SegmentModel}
use Rattle.pdn_level.specs.Links.{slice_at}
use Rattle.pdn_level.specs.Slices.{slices, followed}
use Rattle.pdn_level.specs.Levels.{first_slice, level_of_node, leaves_of}

abbrev pub same_value : Value → Value → Bool
same_value = eq_by_cmp value_cmp

-- the rows with this value in a column
abbrev pub at : ℕ → Value → Rows → Rows
at column v rows = filter (λ row. same_value v (cell row column)) rows

-- The meaning of a tree in which each leaf reads only the rows of its table whose traced column is v, where a slice column is
-- followed.
abbrev pub mean_at : SchemaModel → (ℕ → Rows) → Value → Node → ℕ → Rows
mean_at schema tables v n column = (followed schema (λ table s. at s v (tables table)) (mean_step tables) n).at column

-- the column by which a tree is sliced
abbrev pub slice_column : SchemaModel → Node → ℕ
slice_column schema n = first_slice (slices schema n)

-- every table's rows are as wide as the schema says
abbrev pub AreWide : SchemaModel → (ℕ → Rows) → Type 0
AreWide schema tables = (table : ℕ) → Wide (length (table_columns schema table)) (tables table)

-- the value that a row has in a column is one of these, once
abbrev pub HasOne : List Value → ℕ → List Value → Type 0
HasOne values column row = count_by (λ v. same_value v (cell row column)) values ≡ 1

-- The values have each value of the traced columns once. So do the values in the directories of both sites, each once.
abbrev pub HaveEach : (ℕ → Rows) → List Leaf → List Value → Type 0
HaveEach tables leaves values = AllByRecursion (λ leaf. AllByRecursion (HasOne values leaf.column) (tables leaf.table)) leaves

-- what is read at a step of the way down: 0 is the only or the left, 1 the right
abbrev pub child_of : ℕ → Node-F Node → Option Node
child_of way (Node-F.Scan table) = None
child_of way (Node-F.Filter child cond) = Some child
child_of way (Node-F.Project child columns) = Some child
child_of zero (Node-F.Join left right on) = Some left
child_of (suc way) (Node-F.Join left right on) = Some right
child_of way (Node-F.Group child keys having) = Some child
child_of way (Node-F.Count child) = Some child
child_of way (Node-F.Distinct child) = Some child
child_of way (Node-F.Number child partition order) = Some child
child_of way (Node-F.Top child order limit) = Some child

-- the tree at the end of a way
abbrev pub stands_at : List ℕ → Node → Node → Type 0
stands_at [] root top = root ≡ top
stands_at (way ∷ path) root top = (child : Node) × (child_of way (out-Node root) ≡ Some child) × stands_at path child top

-- A tree's rows are, as a bag, the sum over the values of what it means where its leaves are cut at the value; and each row's
-- value in the slice column is one of them.
pub record SlicesAdd (schema : SchemaModel) (tables : ℕ → Rows) (top : Node) (values : List Value) : Type 0 where
  pub sum : SameRows (mean tables top) (flat_map (λ v. mean_at schema tables v top (slice_column schema top)) values)
  pub occurs : AllByRecursion (HasOne values (slice_column schema top)) (mean tables top)

-- a leaf's traced column is a public one of its table
abbrev pub IsPublicLeaf : SchemaModel → Leaf → Type 0
IsPublicLeaf schema leaf = slice_at (map (λ c. is_public c.mark) (table_columns schema leaf.table)) leaf.column ≡ true

-- A segment's top is Sliced, its leaves are those to which its slice column is traced, all of them public, and its slices add
-- up, whatever the tables hold.
pub record IsSound (schema : SchemaModel) (root : Node) (segment : SegmentModel) : Type 0 where
  pub top : Node
  pub there : stands_at segment.path root top
  pub level : level_of_node schema top ≡ level.Sliced
  pub leaves : segment.leaves ≡ leaves_of schema top (slice_column schema top)
  pub public : AllByRecursion (IsPublicLeaf schema) segment.leaves
  pub slices : slice_at (slices schema top) (slice_column schema top) ≡ true
  pub add : (tables : ℕ → Rows) (values : List Value) → AreWide schema tables → HaveEach tables segment.leaves values → SlicesAdd schema tables top values
