-- What both sites' rows of a query come to: a query that is ready, or why they are refused.
use Rattle.std.specs.Prelude.{◌≡◌, ◌⊎◌, ◌<◌, ℕ, List, [], length, get_or, Ok, Err}
use Rattle.pdn_base.specs.Operators.{Rows}
use Rattle.pdn_base.specs.declared.rows_err.RowsErr.{RowsErr}
use Rattle.pdn_base.specs.declared.site.Site.{Site}
use Rattle.pdn_base.specs.declared.site.Site.TheVariants.{A, B}
use Rattle.pdn_base.specs.declared.status.Status.TheVariants as status
use Rattle.pdn_schema.specs.Models.{SchemaModel, TableModel, table_of}
use Rattle.pdn_schema.specs.Rows.{IsValid, IsRefused, AreValid}
use Rattle.pdn_tree.specs.declared.node.Node.{Node}
use Rattle.pdn_site.specs.Models.{UnitModel}
use Rattle.pdn_broker.specs.declared.answered.Answered.{Answered}
use Rattle.pdn_broker.specs.Runs.{Tape}
use Rattle.pdn_broker.specs.Answered.{IsAnswered}
use Rattle.pdn_broker.specs.Prepared.{PreparedModel, prepared_of}
use Rattle.pdn_script.specs.declared.stop.Stop.{Stop}
use Rattle.pdn_script.specs.Stops.{stop_of, IsRefusal}
use Rattle.pdn_query.specs.Answering.{units_over, wrong_column}
use Rattle.pdn_query.specs.Walk.{NoMemory}

-- a site's rows of a table are refused
pub record WrongRows (site : Site) (at : ℕ) (t : TableModel) (rows : Rows) (stop : Stop) : Type 0 where
  pub wrong : RowsErr
  pub is : IsRefused t rows wrong
  pub refused : IsRefusal t.name (wrong_column t wrong) (status.BadRows site at wrong) stop

-- the first of a site's tables whose rows aren't valid is refused
pub record WrongTable (s : SchemaModel) (site : Site) (tables : List Rows) (stop : Stop) : Type 0 where
  pub at : ℕ
  pub within : at < length s.tables
  pub before : (t : ℕ) → t < at → IsValid (table_of s t) (get_or tables t [])
  pub here : WrongRows site at (table_of s at) (get_or tables at []) stop

-- the first unit that passes a limit is refused
pub record LargeUnit (s : SchemaModel) (root : Node) (a b : List Rows) (stop : Stop) : Type 0 where
  pub limit : ℕ
  pub unit : ℕ
  pub passes : units_over s root a b ≡ Err (limit, unit)
  pub refused : IsRefusal [] [] (status.TooLarge limit unit) stop

-- rows of A are refused, or else rows of B, or else a unit; or memory ran out
abbrev pub NotReady : SchemaModel → Node → List Rows → List Rows → Stop → Type 0
NotReady s root a b stop = WrongTable s A a stop ⊎ (AreValid s a × WrongTable s B b stop) ⊎ (AreValid s a × AreValid s b × LargeUnit s root a b stop) ⊎ (stop_of stop ≡ NoMemory)

-- a query that is ready is made of valid tables
pub record IsReady (s : SchemaModel) (root : Node) (p : PreparedModel) : Type 0 where
  pub form : p ≡ prepared_of s root p.a.tables p.b.tables p.units
  pub valid_a : AreValid s p.a.tables
  pub valid_b : AreValid s p.b.tables

-- These tables are valid, the units over them pass no limit, and this is made of all of them.
pub record AreReady (s : SchemaModel) (root : Node) (a b : List Rows) (p : PreparedModel) : Type 0 where
  pub valid_a : AreValid s a
  pub valid_b : AreValid s b
  pub units : List UnitModel
  pub fits : units_over s root a b ≡ Ok units
  pub made : p ≡ prepared_of s root a b units

-- This is the answer, on this tape and with this ticket, of a query that is ready.
pub record IsAnsweredOn (tape : Tape) (s : SchemaModel) (root : Node) (ticket : ℕ) (answered : Answered) : Type 0 where
  pub p : PreparedModel
  pub ready : IsReady s root p
  pub is : IsAnswered p tape ticket answered
