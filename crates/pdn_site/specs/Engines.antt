-- A site's engine as contracts see it, and which tables it refuses.
use Rattle.std.specs.Prelude.{◌≡◌, ℕ, ◌<◌, true, List, [], length, get_or, None, unwrap_or}
use Rattle.pdn_base.specs.declared.site.Site.{Site}
use Rattle.pdn_base.specs.declared.rows_err.RowsErr.{RowsErr}
use Rattle.pdn_base.specs.declared.value.Value.{Value}
use Rattle.pdn_base.specs.declared.value.Value.TheVariants as value
use Rattle.pdn_base.specs.Operators.{Rows, listed}
use Rattle.pdn_schema.specs.Models.{SchemaModel, table_of}
use Rattle.pdn_schema.specs.Rows.{IsValid, IsRefused, AreValid}
use Rattle.pdn_tree.specs.declared.node.Node.{Node}
use Rattle.pdn_level.specs.Models.{SegmentModel}
use Rattle.pdn_level.specs.Levels.{segments_of}
use Rattle.pdn_level.specs.Cutting.{slice_column}
use Rattle.pdn_site.specs.declared.unit.UnitKind.TheVariants as kind
use Rattle.pdn_site.specs.Models.{UnitModel}
use Rattle.pdn_site.specs.Compiling.{node_at}
use Rattle.pdn_site.specs.SiteRows.{plain_rows, unit_words}
use Rattle.pdn_site.specs.Meaning.{AreTables, numbers_fit}
use Rattle.pdn_site.specs.declared.engine.SiteErr.{SiteErr}
use Rattle.pdn_site.specs.declared.engine.SiteErr.TheVariants as err

-- what it was made from: of the plan, its tree
pub record EngineModel : Type 0 where
  pub site : Site
  pub schema : SchemaModel
  pub root : Node
  pub staged : List SegmentModel
  pub tables : List Rows

-- every engine's tables are valid, its segments are those of its tree, and the numbers of tables and tree fit their types
pub record IsEngine (engine : EngineModel) : Type 0 where
  pub tables : AreTables engine.schema engine.tables
  pub staged : engine.staged ≡ segments_of engine.schema engine.root []
  pub numbers : numbers_fit engine.root ≡ true

abbrev pub no_segment : SegmentModel
no_segment = record { path = []; leaves = [] }

abbrev pub segment_of : EngineModel → ℕ → SegmentModel
segment_of engine segment = get_or engine.staged segment no_segment

-- the tree of a segment
abbrev pub top_of : EngineModel → ℕ → Node
top_of engine segment = node_at (segment_of engine segment).path engine.root

-- ---- units

abbrev pub no_unit : UnitModel
no_unit = record { kind = kind.Root; segment = None; value = None; len = 0; circuit = None }

abbrev pub segment_number : UnitModel → ℕ
segment_number unit = unwrap_or unit.segment 0

abbrev pub value_of : UnitModel → Value
value_of unit = unwrap_or unit.value (value.Int 0)

-- a unit of a segment that is there
abbrev pub IsOfSegment : EngineModel → UnitModel → Type 0
IsOfSegment engine unit = segment_number unit < length engine.staged

-- what a segment means at a value over the site's own rows, in ascending order of all columns
abbrev pub slice_rows : EngineModel → ℕ → Value → Rows
slice_rows engine segment v = listed [] (plain_rows engine.schema engine.tables v (top_of engine segment))

-- the site's words in the secure unit of a segment and a value
abbrev pub secure_words : EngineModel → ℕ → Value → List ℕ
secure_words engine segment v = unit_words engine.schema engine.tables v (top_of engine segment) (slice_column engine.schema (top_of engine segment))

-- ---- refusals

-- the first table, in the order of the schema, whose rows are not valid, and why
pub record IsFirstRefused (schema : SchemaModel) (tables : List Rows) (table : ℕ) (cause : RowsErr) : Type 0 where
  pub within : table < length schema.tables
  pub before : (t : ℕ) → t < table → IsValid (table_of schema t) (get_or tables t [])
  pub here : IsRefused (table_of schema table) (get_or tables table []) cause

-- memory is wanting only where all tables are valid
abbrev pub IsNoEngine : SchemaModel → List Rows → SiteErr → Type 0
IsNoEngine schema tables (err.Rows table cause) = IsFirstRefused schema tables table cause
IsNoEngine schema tables err.Memory = AreValid schema tables
