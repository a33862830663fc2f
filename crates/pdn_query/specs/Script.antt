-- What a query should do: the parts of a script that all commands share.
use Rattle.std.specs.Prelude.{ℕ, List, Option, Some, None, Result, Ok, Err, decimal}
use Rattle.std.specs.List.{slice_get}
pub use Rattle.pdn_script.specs.Scripts.{Finish, Refuse, Say, Ask, refuse}
use Rattle.pdn_script.specs.Scripts.{Script as Tree}
use Rattle.pdn_base.specs.declared.status.Status.{Status}
use Rattle.pdn_base.specs.declared.status.Status.TheVariants as status
use Rattle.pdn_schema.specs.Models.{SchemaModel, TableModel}
use Rattle.pdn_schema.specs.declared.schema.Column.{Column}
use Rattle.pdn_sql.specs.declared.query.Query.{Query}
use Rattle.pdn_tree.specs.Plans.{PlanModel}
use Rattle.pdn_query.specs.Questions.{Question, Bound, Reply, Unbound, Broken, Hidden}

-- a script of these questions
abbrev pub Script : Type 0
Script = Tree Question Reply

-- what follows what was read, or the refusal that names the place and the cause of its first fault
abbrev pub or_fault : {X : Type 0} → (ℕ → ℕ → Status) → (X → Script) → Result X (ℕ × ℕ) → Script
or_fault fault next (Ok x) = next x
or_fault fault next (Err at) = refuse (fault at.0 at.1)

-- the refusal of a query that has no plan
abbrev pub refuse_unbound : Unbound → Script
refuse_unbound (Broken kind name) = refuse (status.Plan kind name)
refuse_unbound (Hidden column label) = refuse (status.Forbidden column label)

-- what follows a query's plan, or that refusal
abbrev pub or_unbound : (PlanModel → Script) → Result PlanModel Unbound → Script
or_unbound next (Ok plan) = next plan
or_unbound next (Err why) = refuse_unbound why

abbrev pub binding : SchemaModel → Query → (PlanModel → Script) → Script
binding s query next = Ask (Bound s query) (or_unbound next)

-- the name of a column, or its number where there is none
abbrev pub name_or : ℕ → Option Column → List ℕ
name_or at None = decimal at
name_or at (Some column) = column.name

abbrev pub column_name : TableModel → ℕ → List ℕ
column_name t at = name_or at (slice_get t.columns at)
