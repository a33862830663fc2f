-- What the circuit of the root means, once the secure units' output words are given to it.
use Rattle.std.specs.Prelude.{◌≡◌, ℕ, ◌+◌, ◌≤◌, true, List, [], ◌∷◌, ◌++◌, map, length, get_or}
use Rattle.std.specs.List.{flat_map, AllByRecursion}
use Rattle.pdn_base.specs.declared.marks.Kind.{Kind}
use Rattle.pdn_base.specs.declared.site.Site.TheVariants.{A, B}
use Rattle.pdn_base.specs.declared.value.Value.{Value}
use Rattle.pdn_base.specs.Operators.{Rows, SameRows}
use Rattle.pdn_schema.specs.Models.{SchemaModel}
use Rattle.pdn_schema.specs.Rows.{union}
use Rattle.pdn_tree.specs.declared.node.Node.{Node, fold-Node}
use Rattle.pdn_tree.specs.declared.node.Node.TheVariants as node
use Rattle.pdn_tree.specs.declared.node.Node.TheOpen.{Node-F}
use Rattle.pdn_tree.specs.Meaning.{mean}
use Rattle.pdn_tree.specs.Shapes.{kinds, shape}
use Rattle.pdn_circuit.specs.Gates.{InputWords}
use Rattle.pdn_circuit.specs.Plain.{Yields, Ends}
use Rattle.pdn_obl_rows.specs.Lists.{PaddedList}
use Rattle.pdn_obl_rows.specs.Encoding.{RowsAreOf, Stand}
use Rattle.pdn_level.specs.declared.staged.Level.{Level}
use Rattle.pdn_level.specs.declared.staged.Level.TheVariants as level
use Rattle.pdn_level.specs.Levels.{level_of_node}
use Rattle.pdn_level.specs.Cutting.{mean_at, slice_column}
use Rattle.pdn_site.specs.declared.unit.UnitKind.{UnitKind}
use Rattle.pdn_site.specs.declared.unit.UnitKind.TheVariants.{Plain, Secure, Root}
use Rattle.pdn_site.specs.Laying.{Taken, nothing}
use Rattle.pdn_site.specs.Circuits.{Part, root_list}
use Rattle.pdn_site.specs.Compiling.{root_sizes}
use Rattle.pdn_site.specs.SiteRows.{Slice, plain_rows, root_words}
use Rattle.pdn_site.specs.Meaning.{AreTables, Holds, numbers_fit, words_out}

-- ---- the tops of a tree's segments, in the order in which the root takes them
pub record Topped : Type 0 where
  pub tree : Node
  pub tops : List Node

abbrev pub tops_by : Level → Node → List Node → List Node
tops_by level.Local tree below = []
tops_by level.Sliced tree below = tree ∷ []
tops_by level.Secure tree below = below

abbrev pub topped : SchemaModel → Node → List Node → Topped
topped schema tree below = record { tree = tree; tops = tops_by (level_of_node schema tree) tree below }

abbrev pub topped_step : SchemaModel → Node-F Topped → Topped
topped_step schema (Node-F.Scan table) = topped schema (node.Scan table) []
topped_step schema (Node-F.Filter child cond) = topped schema (node.Filter child.tree cond) child.tops
topped_step schema (Node-F.Project child columns) = topped schema (node.Project child.tree columns) child.tops
topped_step schema (Node-F.Join left right on) = topped schema (node.Join left.tree right.tree on) (left.tops ++ right.tops)
topped_step schema (Node-F.Group child keys having) = topped schema (node.Group child.tree keys having) child.tops
topped_step schema (Node-F.Count child) = topped schema (node.Count child.tree) child.tops
topped_step schema (Node-F.Distinct child) = topped schema (node.Distinct child.tree) child.tops
topped_step schema (Node-F.Number child partition order) = topped schema (node.Number child.tree partition order) child.tops
topped_step schema (Node-F.Top child order limit) = topped schema (node.Top child.tree order limit) child.tops

abbrev pub segment_tops : SchemaModel → Node → List Node
segment_tops schema root = let t : Topped = fold-Node Topped (topped_step schema) root in t.tops

-- ---- the units of the segments
abbrev pub part_of : Slice → Part
part_of slice = record { kind = slice.kind; len = slice.len }

abbrev pub parts_of_slices : List (List Slice) → List (List Part)
parts_of_slices slices = map (map part_of) slices

-- the output words of a secure unit whose list holds these rows
pub record GivesRows (given : List ℕ) (columns : List Kind) (count : ℕ) (meant : Rows) : Type 0 where
  pub words : List ℕ
  pub list : PaddedList
  pub holds : Holds words list columns count meant
  pub output : given ≡ words_out words list

-- a plain unit's rows are its site's own, and as a bag what the segment means over the union at the value
pub record PlainMeans (rows meant : Rows) (columns : List Kind) (count : ℕ) : Type 0 where
  pub same : SameRows rows meant
  pub of : RowsAreOf columns rows
  pub few : length rows ≤ count

-- what the root reads of a unit is what the segment means over the union at the unit's value
abbrev pub UnitGives : SchemaModel → List Rows → List Rows → Node → (Value → List ℕ) → Value → ℕ → UnitKind → Type 0
UnitGives schema a b top output v len (Plain A) = PlainMeans (plain_rows schema a v top) (mean_at schema (union a b) v top (slice_column schema top)) (kinds schema top) len
UnitGives schema a b top output v len (Plain B) = PlainMeans (plain_rows schema b v top) (mean_at schema (union a b) v top (slice_column schema top)) (kinds schema top) len
UnitGives schema a b top output v len Secure = GivesRows (output v) (kinds schema top) len (mean_at schema (union a b) v top (slice_column schema top))
UnitGives schema a b top output v len Root = ⊥

-- the units of a segment, which has this top
pub record SegmentGives (schema : SchemaModel) (a b : List Rows) (top : Node) (slices : List Slice) (output : Value → List ℕ) : Type 0 where
  pub sum : SameRows (mean (union a b) top) (flat_map (λ (s : Slice). mean_at schema (union a b) s.value top (slice_column schema top)) slices)
  pub units : AllByRecursion (λ (s : Slice). UnitGives schema a b top output s.value s.len s.kind) slices

-- the same of each segment, the first of which is segment i
abbrev pub SegmentsGive : SchemaModel → List Rows → List Rows → List (List Slice) → (ℕ → Value → List ℕ) → ℕ → List Node → Type 0
SegmentsGive schema a b slices outputs i [] = Unit {0}
SegmentsGive schema a b slices outputs i (top ∷ tops) = SegmentGives schema a b top (get_or slices i []) (outputs i) × SegmentsGive schema a b slices outputs (i + 1) tops

-- ---- the given words
abbrev pub given_by : (Value → List ℕ) → Value → UnitKind → List ℕ
given_by output v (Plain site) = []
given_by output v Secure = output v
given_by output v Root = []

abbrev pub segment_given : List (List Slice) → (ℕ → Value → List ℕ) → ℕ → List ℕ
segment_given slices outputs i = flat_map (λ (s : Slice). given_by (outputs i) s.value s.kind) (get_or slices i [])

-- the output words of the secure units of these segments, in unit order
abbrev pub given_from : List (List Slice) → (ℕ → Value → List ℕ) → ℕ → List Node → List ℕ
given_from slices outputs i [] = []
given_from slices outputs i (top ∷ tops) = segment_given slices outputs i ++ given_from slices outputs (i + 1) tops

-- Over the sites' words of the root and the secure units' output words, the root's list holds what the plan means over the union.
abbrev pub RootMeans : Type 0
RootMeans = (schema : SchemaModel) (a b : List Rows) → AreTables schema a → AreTables schema b → (root : Node) → (shape schema root).sound ≡ true → numbers_fit root ≡ true →
    (slices : List (List Slice)) (outputs : ℕ → Value → List ℕ) → SegmentsGive schema a b slices outputs 0 (segment_tops schema root) → (root_sizes schema (parts_of_slices slices) root).longest ≤ 4096 →
    (inputs : InputWords) (words : List ℕ) → Ends words → Stand inputs.a 0 (root_words A schema a slices root) → Stand inputs.b 0 (root_words B schema b slices root) → Stand inputs.given 0 (given_from slices outputs 0 (segment_tops schema root)) →
    (list : PaddedList) (after : Taken) → Yields inputs words (root_list schema (parts_of_slices slices) root nothing) (list, after) →
    Holds words list (kinds schema root) (root_sizes schema (parts_of_slices slices) root).len (mean (union a b) root)
