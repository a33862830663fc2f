-- The units of a query with their circuits, or the first limit that they pass.
use Rattle.std.specs.Prelude.{◌≡◌, ℕ, ◌+◌, ◌-◌, ◌*◌, max, nat_lt, Bool, true, false, cond, List, [], ◌∷◌, ◌++◌, map, length, get_or, Option, Some, None, Result, Ok, Err}
use Rattle.std.specs.List.{sum_by, flat_map}
use Rattle.pdn_base.specs.declared.value.Value.{Value}
use Rattle.pdn_schema.specs.Models.{SchemaModel, table_of}
use Rattle.pdn_circuit.specs.declared.gate.Gate.{Gate}
use Rattle.pdn_circuit.specs.Gates.{Net}
use Rattle.pdn_circuit.specs.Building.{first_over, and_count}
use Rattle.pdn_obl_rows.specs.Lists.{PaddedList}
use Rattle.pdn_tree.specs.declared.node.Node.{Node, fold-Node, out-Node}
use Rattle.pdn_tree.specs.declared.node.Node.TheVariants as node
use Rattle.pdn_tree.specs.declared.node.Node.TheOpen.{Node-F}
use Rattle.pdn_level.specs.declared.staged.Level.{Level}
use Rattle.pdn_level.specs.declared.staged.Level.TheVariants as level
use Rattle.pdn_level.specs.Models.{SegmentModel}
use Rattle.pdn_level.specs.Levels.{level_of_node}
use Rattle.pdn_level.specs.Cutting.{slice_column, child_of}
use Rattle.pdn_site.specs.declared.unit.UnitKind.{UnitKind}
use Rattle.pdn_site.specs.declared.unit.UnitKind.TheVariants.{Plain, Secure, Root}
use Rattle.pdn_site.specs.declared.unit.CompileErr.{CompileErr}
use Rattle.pdn_site.specs.declared.unit.CompileErr.TheVariants as err
use Rattle.pdn_site.specs.Models.{Dirs, UnitModel}
use Rattle.pdn_site.specs.Directories.{unit_values, kind_of}
use Rattle.pdn_site.specs.Laying.{Laying}
use Rattle.pdn_site.specs.Lists.{Sized, sized}
use Rattle.pdn_site.specs.Circuits.{Part, unit_list, root_list, net_of}

-- ---- units before their circuits

-- a unit, its longest list, and what is laid for it; nothing for a plain one
pub record Shape : Type 0 where
  pub kind : UnitKind
  pub segment : Option ℕ
  pub value : Option Value
  pub len : ℕ
  pub longest : ℕ
  pub laid : Option (Laying PaddedList)

abbrev pub shape_by : SchemaModel → Node → ℕ → ℕ → Value → UnitKind → Shape
shape_by schema top column i v (Plain site) =
    let lists : Sized = sized schema 1 top column in
    record { kind = Plain site; segment = Some i; value = Some v; len = lists.padding.room; longest = lists.longest; laid = None }
shape_by schema top column i v Secure =
    let lists : Sized = sized schema 2 top column in
    record { kind = Secure; segment = Some i; value = Some v; len = lists.padding.room; longest = lists.longest; laid = Some (unit_list schema v top column) }
shape_by schema top column i v Root = record { kind = Root; segment = None; value = None; len = 0; longest = 0; laid = None }

-- the tree at the end of a way from the root
abbrev pub or_same : Node → Option Node → Node
or_same n None = n
or_same n (Some child) = child

abbrev pub node_at : List ℕ → Node → Node
node_at [] n = n
node_at (way ∷ path) n = node_at path (or_same n (child_of way (out-Node n)))

-- the units of one segment
abbrev pub segment_shapes : SchemaModel → Node → ℕ → Dirs → List Shape
segment_shapes schema top i dirs = map (λ v. shape_by schema top (slice_column schema top) i v (kind_of dirs v)) (unit_values dirs)

-- the units of each segment, the first of which is segment i
abbrev pub shapes_from : SchemaModel → Node → ℕ → List SegmentModel → List Dirs → List (List Shape)
shapes_from schema root i [] dirs = []
shapes_from schema root i (s ∷ ss) [] = []
shapes_from schema root i (s ∷ ss) (d ∷ ds) = segment_shapes schema (node_at s.path root) i d ∷ shapes_from schema root (i + 1) ss ds

abbrev pub parts_of : List Shape → List Part
parts_of shapes = map (λ (s : Shape). record { kind = s.kind; len = s.len }) shapes

-- ---- the lists of the root

-- a list's length, the longest list up to it, and the number of the segment that comes next
pub record RootSized : Type 0 where
  pub len : ℕ
  pub longest : ℕ
  pub segments : ℕ

-- of a tree in the root: of a Local one how many rows a site has, and its lists, where segment i comes next
pub record RootLists : Type 0 where
  pub tree : Node
  pub rows : ℕ
  pub lists : ℕ → RootSized

abbrev pub sum_lens : List Part → ℕ
sum_lens parts = sum_by (λ (p : Part). p.len) parts

abbrev pub alone : ℕ → ℕ → RootSized
alone len segments = record { len = len; longest = len; segments = segments }

-- a leaf has the rows of both sites; a segment those of its units; any other node what its operator gives
abbrev pub sized_by : Level → List (List Part) → ℕ → (ℕ → RootSized) → ℕ → RootSized
sized_by level.Local parts rows above i = alone (2 * rows) i
sized_by level.Sliced parts rows above i = alone (sum_lens (get_or parts i [])) (i + 1)
sized_by level.Secure parts rows above i = above i

-- what an operator gives over a list
abbrev pub over_len : (ℕ → ℕ) → (ℕ → RootSized) → ℕ → RootSized
over_len len child i = let below : RootSized = child i in record { len = len below.len; longest = max below.longest (len below.len); segments = below.segments }

abbrev pub over_both : (ℕ → RootSized) → (ℕ → RootSized) → ℕ → RootSized
over_both left right i =
    let l : RootSized = left i in
    let r : RootSized = right l.segments in
    record { len = l.len * r.len; longest = max (max l.longest r.longest) (l.len * r.len); segments = r.segments }

abbrev pub root_sized : SchemaModel → List (List Part) → Node → ℕ → (ℕ → RootSized) → RootLists
root_sized schema parts tree rows above = record { tree = tree; rows = rows; lists = sized_by (level_of_node schema tree) parts rows above }

abbrev pub same_len : ℕ → ℕ
same_len len = len

abbrev pub one_row : ℕ → ℕ
one_row len = 1

abbrev pub root_sizes_step : SchemaModel → List (List Part) → Node-F RootLists → RootLists
root_sizes_step schema parts (Node-F.Scan table) = root_sized schema parts (node.Scan table) (table_of schema table).rows (alone 0)
root_sizes_step schema parts (Node-F.Filter child cond) = root_sized schema parts (node.Filter child.tree cond) child.rows (over_len same_len child.lists)
root_sizes_step schema parts (Node-F.Project child columns) = root_sized schema parts (node.Project child.tree columns) child.rows (over_len same_len child.lists)
root_sizes_step schema parts (Node-F.Join left right on) = root_sized schema parts (node.Join left.tree right.tree on) 0 (over_both left.lists right.lists)
root_sizes_step schema parts (Node-F.Group child keys having) = root_sized schema parts (node.Group child.tree keys having) 0 (over_len same_len child.lists)
root_sizes_step schema parts (Node-F.Count child) = root_sized schema parts (node.Count child.tree) 0 (over_len one_row child.lists)
root_sizes_step schema parts (Node-F.Distinct child) = root_sized schema parts (node.Distinct child.tree) 0 (over_len same_len child.lists)
root_sizes_step schema parts (Node-F.Number child partition order) = root_sized schema parts (node.Number child.tree partition order) 0 (over_len same_len child.lists)
root_sizes_step schema parts (Node-F.Top child order limit) = root_sized schema parts (node.Top child.tree order limit) 0 (over_len same_len child.lists)

abbrev pub root_sizes : SchemaModel → List (List Part) → Node → RootSized
root_sizes schema parts root = let lists : RootLists = fold-Node RootLists (root_sizes_step schema parts) root in lists.lists 0

-- ---- all units

abbrev pub root_shape : SchemaModel → List (List Part) → Node → Shape
root_shape schema parts root =
    let lists : RootSized = root_sizes schema parts root in
    record { kind = Root; segment = None; value = None; len = lists.len; longest = lists.longest; laid = Some (root_list schema parts root) }

-- the units of all segments in order, and the root
abbrev pub shapes_of : SchemaModel → Node → List SegmentModel → List Dirs → List Shape
shapes_of schema root segments dirs =
    let below : List (List Shape) = shapes_from schema root 0 segments dirs in
    flat_map (λ shapes. shapes) below ++ root_shape schema (map parts_of below) root ∷ []

-- ---- circuits, by what earlier units left of the limits

abbrev pub unit_of : Shape → Option Net → UnitModel
unit_of shape circuit = record { kind = shape.kind; segment = shape.segment; value = shape.value; len = shape.len; circuit = circuit }

abbrev pub is_root : UnitKind → Bool
is_root (Plain site) = false
is_root Secure = false
is_root Root = true

abbrev pub Compiled : Type 0
Compiled = Result (List UnitModel) (ℕ × ℕ)

abbrev pub with_unit : UnitModel → Compiled → Compiled
with_unit unit (Ok units) = Ok (unit ∷ units)
with_unit unit (Err passed) = Err passed

-- a circuit that passes no limit, and then the other units by what it leaves; else the limit
abbrev pub fitted : Option ℕ → ℕ → UnitModel → Compiled → Compiled
fitted None u unit rest = with_unit unit rest
fitted (Some limit) u unit rest = Err (limit, u)

-- Limit 1 is a list of more than 4096 rows, and goes before the others.
abbrev pub within : Bool → ℕ → Compiled → Compiled
within true u compiled = Err (1, u)
within false u compiled = compiled

-- the circuit that is laid for a unit
abbrev pub circuit_of : Shape → Option (Laying PaddedList) → Option Net
circuit_of shape None = None
circuit_of shape (Some laid) = Some (net_of (is_root shape.kind) laid)

abbrev pub gates_of : Option Net → List Gate
gates_of None = []
gates_of (Some net) = net.gates

-- the units from number u on, where so many And gates and gates are left
abbrev pub compiled_from : ℕ → ℕ → ℕ → List Shape → Compiled
compiled_from u ands gates [] = Ok []
compiled_from u ands gates (shape ∷ shapes) =
    let circuit : Option Net = circuit_of shape shape.laid in
    let made : List Gate = gates_of circuit in
    within (nat_lt 4096 shape.longest) u
    (fitted (first_over ands gates made) u (unit_of shape circuit) (compiled_from (u + 1) (ands - and_count made) (gates - length made) shapes))

-- the units of a query, or the limit that is passed first, with the number of the unit
abbrev pub compiled : SchemaModel → Node → List SegmentModel → List Dirs → Compiled
compiled schema root segments dirs = compiled_from 0 4194304 16777216 (shapes_of schema root segments dirs)

-- why there are no units: the limit that is passed first, and the number of the unit that passes it
abbrev pub IsTooLarge : SchemaModel → Node → List SegmentModel → List Dirs → CompileErr → Type 0
IsTooLarge schema root segments dirs (err.TooLarge limit unit) = compiled schema root segments dirs ≡ Err (limit, unit)
IsTooLarge schema root segments dirs err.Memory = Unit {0}
