-- A query that is ready to be answered, or why it isn't.
use Rattle.std.specs.Prelude.{◌≡◌, ℕ, true, List, [], Err}
use Rattle.pdn_base.specs.declared.marks.Kind.{Kind}
use Rattle.pdn_base.specs.declared.order.Key.{Key}
use Rattle.pdn_base.specs.declared.site.Site.{Site}
use Rattle.pdn_base.specs.declared.site.Site.TheVariants.{A, B}
use Rattle.pdn_base.specs.Operators.{Rows}
use Rattle.pdn_schema.specs.Models.{SchemaModel}
use Rattle.pdn_schema.specs.Rows.{AreValid}
use Rattle.pdn_tree.specs.declared.node.Node.{Node}
use Rattle.pdn_tree.specs.Shapes.{kinds, shape, is_top}
use Rattle.pdn_level.specs.Levels.{segments_of}
use Rattle.pdn_site.specs.declared.unit.CompileErr.{CompileErr}
use Rattle.pdn_site.specs.declared.unit.CompileErr.TheVariants as unit
use Rattle.pdn_site.specs.Models.{Dirs, UnitModel}
use Rattle.pdn_site.specs.Compiling.{compiled}
use Rattle.pdn_site.specs.Engines.{EngineModel, IsEngine, IsFirstRefused}
use Rattle.pdn_site.specs.Meaning.{AreTables, numbers_fit}
use Rattle.pdn_site.specs.NetMeaning.{site_dirs}
use Rattle.pdn_agree.specs.Agreement.{Union, Agree}
use Rattle.pdn_broker.specs.declared.preparing.PrepareErr.{PrepareErr}
use Rattle.pdn_broker.specs.declared.preparing.PrepareErr.TheVariants as err
use Rattle.pdn_broker.specs.Runs.{Both}
use Rattle.pdn_broker.specs.Answering.{top_order, root_own}
use Rattle.pdn_broker.specs.Units.{AreUnits, UnitsStand}

-- the engines of both sites, both sites' directories of each segment, the units, the kinds and the order of the answer, and both
-- sites' words of the root
pub record PreparedModel : Type 0 where
  pub a : EngineModel
  pub b : EngineModel
  pub dirs : List Dirs
  pub units : List UnitModel
  pub columns : List Kind
  pub order : List Key
  pub own : Both

-- One engine is A's and one is B's, of one schema and one plan, over valid tables; the units are those of both sites' directories,
-- and each gate of their circuits stands after those that it reads.
pub record IsPrepared (p : PreparedModel) : Type 0 where
  pub site_a : p.a.site ≡ A
  pub site_b : p.b.site ≡ B
  pub schema : p.b.schema ≡ p.a.schema
  pub root : p.b.root ≡ p.a.root
  pub staged_a : IsEngine p.a
  pub staged_b : IsEngine p.b
  pub tables_a : AreTables p.a.schema p.a.tables
  pub tables_b : AreTables p.a.schema p.b.tables
  pub sound : (shape p.a.schema p.a.root).sound ≡ true
  pub numbers : numbers_fit p.a.root ≡ true
  pub top : is_top p.a.root ≡ true
  pub dirs : p.dirs ≡ site_dirs p.a.tables p.b.tables (segments_of p.a.schema p.a.root [])
  pub units : AreUnits p.a.schema p.a.tables p.b.tables p.a.root p.units
  pub stand : UnitsStand p.units
  pub columns : p.columns ≡ kinds p.a.schema p.a.root
  pub order : p.order ≡ top_order p.a.root
  pub own : p.own ≡ root_own p.a.schema p.a.tables p.b.tables p.a.root

-- made of this schema and plan's tree, and of these tables of A and B
pub record IsOf (of_schema : SchemaModel) (of_root : Node) (tables_a tables_b : List Rows) (p : PreparedModel) : Type 0 where
  pub schema : p.a.schema ≡ of_schema
  pub root : p.a.root ≡ of_root
  pub a : p.a.tables ≡ tables_a
  pub b : p.b.tables ≡ tables_b

-- the engine of a site over these tables
abbrev pub engine_at : Site → SchemaModel → Node → List Rows → EngineModel
engine_at site schema root tables = record { site = site; schema = schema; root = root; staged = segments_of schema root []; tables = tables }

-- What is made ready of a schema, a plan's tree, both sites' tables and the units over them. Every prepared query is of this form.
abbrev pub prepared_of : SchemaModel → Node → List Rows → List Rows → List UnitModel → PreparedModel
prepared_of schema root a b units = record {
  a = engine_at A schema root a;
  b = engine_at B schema root b;
  dirs = site_dirs a b (segments_of schema root []);
  units = units;
  columns = kinds schema root;
  order = top_order root;
  own = root_own schema a b root;
}

abbrev pub PreparedForm : Type 0
PreparedForm = (p : PreparedModel) → IsPrepared p → p ≡ prepared_of p.a.schema p.a.root p.a.tables p.b.tables p.units

-- Why a query is not prepared: the first table of A, or else of B, that isn't valid, or else the first limit that is passed.
abbrev pub IsNotPrepared : SchemaModel → Node → List Rows → List Rows → PrepareErr → Type 0
IsNotPrepared schema root a b (err.Rows A table cause) = IsFirstRefused schema a table cause
IsNotPrepared schema root a b (err.Rows B table cause) = AreValid schema a × IsFirstRefused schema b table cause
IsNotPrepared schema root a b (err.TooLarge limit unit) =
    AreValid schema a × AreValid schema b × (compiled schema root (segments_of schema root []) (site_dirs a b (segments_of schema root [])) ≡ Err (limit, unit))
IsNotPrepared schema root a b err.Memory = Unit {0}

-- refused for the same cause over every union that a site can't tell apart from this one
abbrev pub IsRefusedAlike : SchemaModel → Node → List Rows → List Rows → PrepareErr → Type 0
IsRefusedAlike schema root a b e = (site : Site) (other : Union) → Agree site schema (record { a = a; b = b }) other → IsNotPrepared schema root other.a other.b e

-- why a site has no engine
abbrev pub IsRefusedAt : Site → SchemaModel → List Rows → PrepareErr → Type 0
IsRefusedAt site schema tables (err.Rows at table cause) = (at ≡ site) × IsFirstRefused schema tables table cause
IsRefusedAt site schema tables (err.TooLarge limit unit) = ⊥
IsRefusedAt site schema tables err.Memory = Unit {0}

-- the refusal where units are not compiled
abbrev pub compile_refusal : CompileErr → PrepareErr
compile_refusal (unit.TooLarge limit u) = err.TooLarge limit u
compile_refusal unit.Memory = err.Memory

-- ---- on the way

-- the engines of both sites over these tables
pub record AreEngines (schema : SchemaModel) (root : Node) (rows_a rows_b : List Rows) (a b : EngineModel) : Type 0 where
  pub made_a : a ≡ engine_at A schema root rows_a
  pub made_b : b ≡ engine_at B schema root rows_b
  pub is_a : IsEngine a
  pub is_b : IsEngine b

-- why there are no engines: the first table of A, or else of B, that isn't valid
abbrev pub AreNoEngines : SchemaModel → List Rows → List Rows → PrepareErr → Type 0
AreNoEngines schema a b (err.Rows A table cause) = IsFirstRefused schema a table cause
AreNoEngines schema a b (err.Rows B table cause) = AreValid schema a × IsFirstRefused schema b table cause
AreNoEngines schema a b (err.TooLarge limit unit) = ⊥
AreNoEngines schema a b err.Memory = Unit {0}

-- the units over valid tables are refused, by the limit that is passed first
abbrev pub AreTooLarge : SchemaModel → Node → List Rows → List Rows → PrepareErr → Type 0
AreTooLarge schema root a b (err.Rows site table cause) = ⊥
AreTooLarge schema root a b (err.TooLarge limit unit) = compiled schema root (segments_of schema root []) (site_dirs a b (segments_of schema root [])) ≡ Err (limit, unit)
AreTooLarge schema root a b err.Memory = Unit {0}
