-- What the circuits of a query give, run in plain over the words that the sites put into them.
use Rattle.std.specs.Prelude.{◌≡◌, ℕ, ◌≤◌, Bool, true, false, List, [], length, map, get_or}
use Rattle.std.specs.List.{AllByRecursion}
use Rattle.pdn_base.specs.declared.marks.Kind.{Kind}
use Rattle.pdn_base.specs.declared.site.Site.TheVariants.{A, B}
use Rattle.pdn_base.specs.declared.value.Value.{Value}
use Rattle.pdn_base.specs.Operators.{Rows, SameRows}
use Rattle.pdn_schema.specs.Models.{SchemaModel}
use Rattle.pdn_schema.specs.Rows.{union}
use Rattle.pdn_tree.specs.declared.node.Node.{Node}
use Rattle.pdn_tree.specs.Meaning.{mean}
use Rattle.pdn_tree.specs.Shapes.{kinds, shape}
use Rattle.pdn_circuit.specs.Gates.{Net, InputWords, InOrder, values, output_words}
use Rattle.pdn_circuit.specs.Plain.{Yields, Ends}
use Rattle.pdn_obl_rows.specs.Lists.{PaddedList, valid_rows}
use Rattle.pdn_obl_rows.specs.Encoding.{RowsAreOf, list_from}
use Rattle.pdn_level.specs.Models.{SegmentModel}
use Rattle.pdn_level.specs.Levels.{segments_of}
use Rattle.pdn_level.specs.Cutting.{slice_column}
use Rattle.pdn_site.specs.declared.unit.UnitKind.{UnitKind}
use Rattle.pdn_site.specs.declared.unit.UnitKind.TheVariants.{Plain, Secure, Root}
use Rattle.pdn_site.specs.Laying.{Laying, nothing, list_words}
use Rattle.pdn_site.specs.Directories.{directory, unit_values, kind_of}
use Rattle.pdn_site.specs.Models.{Dirs}
use Rattle.pdn_site.specs.Lists.{sized}
use Rattle.pdn_site.specs.Circuits.{unit_list, root_list, net_of}
use Rattle.pdn_site.specs.Compiling.{root_sizes, shapes_from, parts_of}
use Rattle.pdn_site.specs.SiteRows.{Slice, unit_words, root_words}
use Rattle.pdn_site.specs.Meaning.{AreTables, numbers_fit, words_out}
use Rattle.pdn_site.specs.RootMeaning.{segment_tops, parts_of_slices, given_from}
use Rattle.pdn_site.specs.DirectoryMeaning.{both_dirs, query_slices}

-- ---- any circuit that lays a list
-- run in plain, its words satisfy what was laid, and its outputs are the words of the list
pub record HasRun (released : Bool) (laying : Laying PaddedList) (inputs : InputWords) : Type 0 where
  pub ends : Ends (values inputs (net_of released laying).gates)
  pub yields : Yields inputs (values inputs (net_of released laying).gates) (laying nothing) (laying nothing 2).result
  pub outputs : output_words inputs (net_of released laying) ≡ words_out (values inputs (net_of released laying).gates) (laying nothing 2).result.0

abbrev pub NetMeans : Type 0
NetMeans = (released : Bool) (laying : Laying PaddedList) → InOrder (net_of released laying).gates → (inputs : InputWords) → HasRun released laying inputs

-- ---- the circuits of a query and their inputs
abbrev pub unit_net : SchemaModel → Node → Value → Net
unit_net schema top v = net_of false (unit_list schema v top (slice_column schema top))

-- both sites' words of a secure unit
abbrev pub unit_inputs : SchemaModel → List Rows → List Rows → Node → Value → InputWords
unit_inputs schema a b top v = record { a = unit_words schema a v top (slice_column schema top); b = unit_words schema b v top (slice_column schema top); given = [] }

abbrev pub unit_outputs : SchemaModel → List Rows → List Rows → Node → Value → List ℕ
unit_outputs schema a b top v = output_words (unit_inputs schema a b top v) (unit_net schema top v)

-- of the segment of this number among these tops
abbrev pub outputs_of : SchemaModel → List Rows → List Rows → Node → List Node → ℕ → Value → List ℕ
outputs_of schema a b root tops i v = unit_outputs schema a b (get_or tops i root) v

abbrev pub slices_of : SchemaModel → List Rows → List Rows → Node → List (List Slice)
slices_of schema a b root = query_slices schema a b (segment_tops schema root)

abbrev pub root_net : SchemaModel → List Rows → List Rows → Node → Net
root_net schema a b root = net_of true (root_list schema (parts_of_slices (slices_of schema a b root)) root)

-- both sites' words of the root, and the secure units' output words
abbrev pub root_inputs : SchemaModel → List Rows → List Rows → Node → InputWords
root_inputs schema a b root = record {
  a = root_words A schema a (slices_of schema a b root) root;
  b = root_words B schema b (slices_of schema a b root) root;
  given = given_from (slices_of schema a b root) (outputs_of schema a b root (segment_tops schema root)) 0 (segment_tops schema root);
}

-- ---- units that pass no limit
abbrev pub UnitFits : SchemaModel → Node → Value → UnitKind → Type 0
UnitFits schema top v (Plain site) = (sized schema 1 top (slice_column schema top)).longest ≤ 4096
UnitFits schema top v Secure = ((sized schema 2 top (slice_column schema top)).longest ≤ 4096) × InOrder (unit_net schema top v).gates
UnitFits schema top v Root = Unit {0}

abbrev pub UnitsFit : SchemaModel → List Rows → List Rows → List Node → Type 0
UnitsFit schema a b tops = AllByRecursion (λ top. AllByRecursion (λ v. UnitFits schema top v (kind_of (both_dirs schema a b top) v)) (unit_values (both_dirs schema a b top))) tops

-- These words, read as a list of so many rows of these columns: its valid rows are of the columns, and as a bag what is meant.
pub record Reads (words : List ℕ) (columns : List Kind) (len : ℕ) (meant : Rows) : Type 0 where
  pub count : length words ≡ list_words columns len
  pub rows : SameRows (valid_rows words (list_from 0 columns len)) meant
  pub are : RowsAreOf columns (valid_rows words (list_from 0 columns len))

-- The outputs of the root, read as a list of the root's public length, hold as a bag what the plan means over the union of both
-- sites' tables, where these are valid, the plan fits the schema, and no list is too long.
abbrev pub AnswerMeans : Type 0
AnswerMeans = (schema : SchemaModel) (a b : List Rows) → AreTables schema a → AreTables schema b → (root : Node) → (shape schema root).sound ≡ true → numbers_fit root ≡ true → UnitsFit schema a b (segment_tops schema root) →
    (root_sizes schema (parts_of_slices (slices_of schema a b root)) root).longest ≤ 4096 → InOrder (root_net schema a b root).gates →
    Reads (output_words (root_inputs schema a b root) (root_net schema a b root)) (kinds schema root) (root_sizes schema (parts_of_slices (slices_of schema a b root)) root).len (mean (union a b) root)

-- ---- the units that are compiled
-- both sites' directories of each segment
abbrev pub site_dirs : List Rows → List Rows → List SegmentModel → List Dirs
site_dirs a b segments = map (λ (s : SegmentModel). record { a = directory a s.leaves; b = directory b s.leaves }) segments

-- The units that are compiled from both sites' directories are those of the root's segments, in order.
abbrev pub PartsMean : Type 0
PartsMean = (schema : SchemaModel) (a b : List Rows) (root : Node) → (shape schema root).sound ≡ true → numbers_fit root ≡ true →
    map parts_of (shapes_from schema root 0 (segments_of schema root []) (site_dirs a b (segments_of schema root []))) ≡ parts_of_slices (slices_of schema a b root)
