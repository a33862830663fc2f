-- That the units which the directories make give the root what its segments mean.
use Rattle.std.specs.Prelude.{◌≡◌, ℕ, ◌+◌, ◌≤◌, true, List, [], ◌∷◌, map}
use Rattle.std.specs.List.{AllByRecursion}
use Rattle.pdn_base.specs.declared.site.Site.TheVariants.{A, B}
use Rattle.pdn_base.specs.declared.value.Value.{Value}
use Rattle.pdn_base.specs.Operators.{Rows}
use Rattle.pdn_schema.specs.Models.{SchemaModel}
use Rattle.pdn_schema.specs.Rows.{union}
use Rattle.pdn_tree.specs.declared.node.Node.{Node}
use Rattle.pdn_tree.specs.Meaning.{mean}
use Rattle.pdn_circuit.specs.Gates.{InputWords}
use Rattle.pdn_circuit.specs.Plain.{Yields, Ends}
use Rattle.pdn_obl_rows.specs.Lists.{PaddedList}
use Rattle.pdn_obl_rows.specs.Encoding.{Stand}
use Rattle.pdn_site.specs.Laying.{Taken, nothing}
use Rattle.pdn_site.specs.Circuits.{unit_list, root_list}
use Rattle.pdn_tree.specs.Shapes.{kinds, shape}
use Rattle.pdn_level.specs.Links.{slice_at}
use Rattle.pdn_level.specs.Slices.{slices}
use Rattle.pdn_level.specs.Models.{SegmentModel}
use Rattle.pdn_level.specs.Levels.{leaves_of, segments_of}
use Rattle.pdn_level.specs.Cutting.{mean_at, slice_column}
use Rattle.pdn_site.specs.declared.unit.UnitKind.{UnitKind}
use Rattle.pdn_site.specs.declared.unit.UnitKind.TheVariants.{Plain, Secure, Root}
use Rattle.pdn_site.specs.Models.{Dirs}
use Rattle.pdn_site.specs.Directories.{directory, unit_values, kind_of}
use Rattle.pdn_site.specs.Lists.{sized}
use Rattle.pdn_site.specs.SiteRows.{Slice, unit_words, root_words}
use Rattle.pdn_site.specs.Meaning.{AreTables, Holds, numbers_fit, words_out}
use Rattle.pdn_site.specs.RootMeaning.{GivesRows, SegmentGives, segment_tops, parts_of_slices, given_from}
use Rattle.pdn_site.specs.Compiling.{node_at, root_sizes}

-- the length of a unit's list: with the room of one site's rows in a plain one, of both in a secure one
abbrev pub unit_len : SchemaModel → Node → UnitKind → ℕ
unit_len schema top (Plain site) = (sized schema 1 top (slice_column schema top)).padding.room
unit_len schema top Secure = (sized schema 2 top (slice_column schema top)).padding.room
unit_len schema top Root = 0

-- the units of a segment with this top, by the sites' directories
abbrev pub unit_slices : SchemaModel → Node → Dirs → List Slice
unit_slices schema top dirs = map (λ v. record { kind = kind_of dirs v; value = v; len = unit_len schema top (kind_of dirs v) }) (unit_values dirs)

-- the directories of both sites, of a segment with this top
abbrev pub both_dirs : SchemaModel → List Rows → List Rows → Node → Dirs
both_dirs schema a b top =
    record { a = directory a (leaves_of schema top (slice_column schema top)); b = directory b (leaves_of schema top (slice_column schema top)) }

-- what a unit asks for: that no list of a plain one is too long, and that a secure one gives what the segment means at its value
abbrev pub UnitStands : SchemaModel → List Rows → List Rows → Node → (Value → List ℕ) → Value → UnitKind → Type 0
UnitStands schema a b top output v (Plain site) = (sized schema 1 top (slice_column schema top)).longest ≤ 4096
UnitStands schema a b top output v Secure = GivesRows (output v) (kinds schema top) (unit_len schema top Secure) (mean_at schema (union a b) v top (slice_column schema top))
UnitStands schema a b top output v Root = Unit {0}

-- The units of both sites' directories give their segment.
abbrev pub DirectoriesMean : Type 0
DirectoriesMean = (schema : SchemaModel) (a b : List Rows) → AreTables schema a → AreTables schema b → (top : Node) → (shape schema top).sound ≡ true → slice_at (slices schema top) (slice_column schema top) ≡ true → (output : Value → List ℕ) →
    AllByRecursion (λ v. UnitStands schema a b top output v (kind_of (both_dirs schema a b top) v)) (unit_values (both_dirs schema a b top)) → SegmentGives schema a b top (unit_slices schema top (both_dirs schema a b top)) output

-- ---- the segments of a plan and their tops
-- Segment by segment: its path leads to the top, and its leaves are those to which the top's slice column is traced.
abbrev pub Places : SchemaModel → Node → List SegmentModel → List Node → Type 0
Places schema root [] [] = Unit {0}
Places schema root [] (t ∷ ts) = ⊥
Places schema root (s ∷ ss) [] = ⊥
Places schema root (s ∷ ss) (t ∷ ts) = ((node_at s.path root ≡ t) × (s.leaves ≡ leaves_of schema t (slice_column schema t))) × Places schema root ss ts

-- a tree that fits the schema, and has a slice column
pub record IsTop (schema : SchemaModel) (top : Node) : Type 0 where
  pub sound : (shape schema top).sound ≡ true
  pub numbers : numbers_fit top ≡ true
  pub slices : slice_at (slices schema top) (slice_column schema top) ≡ true

-- the tops that the root takes are those of the plan's segments, in order
abbrev pub TopsMean : Type 0
TopsMean = (schema : SchemaModel) (root : Node) → (shape schema root).sound ≡ true → numbers_fit root ≡ true →
    Places schema root (segments_of schema root []) (segment_tops schema root) × AllByRecursion (IsTop schema) (segment_tops schema root)

-- ---- a whole query
-- the circuit of a secure unit was satisfied over both sites' words, and these are its output words
pub record RunsUnit (schema : SchemaModel) (a b : List Rows) (top : Node) (v : Value) (output : List ℕ) : Type 0 where
  pub inputs : InputWords
  pub words : List ℕ
  pub ends : Ends words
  pub stand_a : Stand inputs.a 0 (unit_words schema a v top (slice_column schema top))
  pub stand_b : Stand inputs.b 0 (unit_words schema b v top (slice_column schema top))
  pub list : PaddedList
  pub after : Taken
  pub yields : Yields inputs words (unit_list schema v top (slice_column schema top) nothing) (list, after)
  pub outputs : output ≡ words_out words list

-- no list of a unit is too long, and a secure one was run
abbrev pub UnitRuns : SchemaModel → List Rows → List Rows → Node → (Value → List ℕ) → Value → UnitKind → Type 0
UnitRuns schema a b top output v (Plain site) = (sized schema 1 top (slice_column schema top)).longest ≤ 4096
UnitRuns schema a b top output v Secure = ((sized schema 2 top (slice_column schema top)).longest ≤ 4096) × RunsUnit schema a b top v (output v)
UnitRuns schema a b top output v Root = Unit {0}

-- the same of all units of these segments, the first of which is segment i
abbrev pub UnitsRun : SchemaModel → List Rows → List Rows → (ℕ → Value → List ℕ) → ℕ → List Node → Type 0
UnitsRun schema a b outputs i [] = Unit {0}
UnitsRun schema a b outputs i (top ∷ tops) =
    AllByRecursion (λ v. UnitRuns schema a b top (outputs i) v (kind_of (both_dirs schema a b top) v)) (unit_values (both_dirs schema a b top)) × UnitsRun schema a b outputs (i + 1) tops

-- the units of each segment, by both sites' directories
abbrev pub query_slices : SchemaModel → List Rows → List Rows → List Node → List (List Slice)
query_slices schema a b tops = map (λ top. unit_slices schema top (both_dirs schema a b top)) tops

-- For valid tables of both sites and a plan that fits: where the secure units were run over both sites' words, and the root over
-- the sites' words and the secure units' output words, the root's list holds what the plan means over the union.
abbrev pub QueryMeans : Type 0
QueryMeans = (schema : SchemaModel) (a b : List Rows) → AreTables schema a → AreTables schema b → (root : Node) → (shape schema root).sound ≡ true → numbers_fit root ≡ true → (outputs : ℕ → Value → List ℕ) →
    UnitsRun schema a b outputs 0 (segment_tops schema root) → (root_sizes schema (parts_of_slices (query_slices schema a b (segment_tops schema root))) root).longest ≤ 4096 → (inputs : InputWords) (words : List ℕ) → Ends words →
    Stand inputs.a 0 (root_words A schema a (query_slices schema a b (segment_tops schema root)) root) → Stand inputs.b 0 (root_words B schema b (query_slices schema a b (segment_tops schema root)) root) →
    Stand inputs.given 0 (given_from (query_slices schema a b (segment_tops schema root)) outputs 0 (segment_tops schema root)) → (list : PaddedList) (after : Taken) →
    Yields inputs words (root_list schema (parts_of_slices (query_slices schema a b (segment_tops schema root))) root nothing) (list, after) →
    Holds words list (kinds schema root) (root_sizes schema (parts_of_slices (query_slices schema a b (segment_tops schema root))) root).len (mean (union a b) root)
