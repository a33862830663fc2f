-- A site's words in the root and in any unit, by the units that are there.
use Rattle.std.specs.Prelude.{◌≡◌, ℕ, nat_eq, Bool, true, false, cond, List, [], ◌∷◌, ◌++◌, map, length, Option, Some, None, Ok}
use Rattle.std.specs.List.{flat_map, range_with_len}
use Rattle.pdn_base.specs.declared.site.Site.{Site}
use Rattle.pdn_base.specs.Operators.{Rows}
use Rattle.pdn_schema.specs.Models.{SchemaModel}
use Rattle.pdn_tree.specs.declared.node.Node.{Node, fold-Node}
use Rattle.pdn_level.specs.Models.{SegmentModel}
use Rattle.pdn_level.specs.Levels.{segments_of}
use Rattle.pdn_site.specs.declared.unit.UnitKind.{UnitKind}
use Rattle.pdn_site.specs.declared.unit.UnitKind.TheVariants.{Plain, Secure, Root}
use Rattle.pdn_site.specs.Models.{UnitModel}
use Rattle.pdn_site.specs.SiteRows.{Slice, slice_words, OwnRoot, RootRows, root_words_step, root_words}
use Rattle.pdn_tree.specs.Shapes.{shape}
use Rattle.pdn_site.specs.Compiling.{compiled}
use Rattle.pdn_site.specs.Meaning.{numbers_fit}
use Rattle.pdn_site.specs.NetMeaning.{slices_of, site_dirs}
use Rattle.pdn_site.specs.Engines.{EngineModel, segment_number, value_of, secure_words}

-- ---- the units of a segment

abbrev pub is_segment : ℕ → Option ℕ → Bool
is_segment i None = false
is_segment i (Some segment) = nat_eq segment i

abbrev pub slice_of : UnitModel → Slice
slice_of unit = record { kind = unit.kind; value = value_of unit; len = unit.len }

-- a unit, where it is one of segment i
abbrev pub slice_in : ℕ → UnitModel → List Slice
slice_in i unit = cond (is_segment i unit.segment) (slice_of unit ∷ []) []

-- the units of segment i, in order
abbrev pub slices_at : List UnitModel → ℕ → List Slice
slices_at units i = flat_map (slice_in i) units

-- the units of each of so many segments
abbrev pub slices_in : ℕ → List UnitModel → List (List Slice)
slices_in count units = map (slices_at units) (range_with_len 0 count)

-- what a site puts in for a unit, where it is one of segment i
abbrev pub words_in : Site → SchemaModel → List Rows → Node → ℕ → UnitModel → List ℕ
words_in site schema tables top i unit = flat_map (slice_words site schema tables top) (slice_in i unit)

-- ---- the root

-- a site's words of a tree in the root, where segment i comes next
abbrev pub tree_words : Site → SchemaModel → List Rows → List (List Slice) → Node → ℕ → OwnRoot
tree_words site schema tables slices n i = (fold-Node RootRows (root_words_step site schema tables slices) n).words i

-- among these segments, those of a tree stand from number i on
pub record StandsFrom (schema : SchemaModel) (staged : List SegmentModel) (n : Node) (i : ℕ) : Type 0 where
  pub path : List ℕ
  pub front : List SegmentModel
  pub rest : List SegmentModel
  pub is : staged ≡ front ++ (segments_of schema n path ++ rest)
  pub count : length front ≡ i

-- ---- any unit

abbrev pub root_inputs : EngineModel → List UnitModel → List ℕ
root_inputs engine units = root_words engine.site engine.schema engine.tables (slices_in (length engine.staged) units) engine.root

-- a site's words in a unit; a plain one has no circuit
abbrev pub inputs_by : UnitKind → EngineModel → List UnitModel → UnitModel → List ℕ
inputs_by (Plain site) engine units unit = []
inputs_by Secure engine units unit = secure_words engine (segment_number unit) (value_of unit)
inputs_by Root engine units unit = root_inputs engine units

abbrev pub unit_inputs : EngineModel → List UnitModel → UnitModel → List ℕ
unit_inputs engine units unit = inputs_by unit.kind engine units unit

-- ---- the units that are compiled

-- The units that are compiled from both sites' directories, segment by segment, are those by which the root is meant.
abbrev pub SlicesMean : Type 0
SlicesMean = (schema : SchemaModel) (a b : List Rows) (root : Node) → (shape schema root).sound ≡ true → numbers_fit root ≡ true → (units : List UnitModel) →
    compiled schema root (segments_of schema root []) (site_dirs a b (segments_of schema root [])) ≡ Ok units → slices_in (length (segments_of schema root [])) units ≡ slices_of schema a b root
