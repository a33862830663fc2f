-- Rows and worlds that are judged.
use Rattle.std.proofs.Common.{◌≡◌, ℕ, List, refl, None, Some}
use Rattle.pdn_base.specs.Operators.{Rows}
use Rattle.pdn_base.specs.declared.rows_err.RowsErr.{RowsErr}
use Rattle.pdn_base.specs.declared.site.Site.{Site}
use Rattle.pdn_base.specs.declared.status.Status.TheVariants as status
use Rattle.pdn_schema.specs.Models.{SchemaModel, table_of}
use Rattle.pdn_level.specs.declared.staged.Leaf.{Leaf}
use Rattle.pdn_agree.specs.Spots.{IsSpot}
use Rattle.pdn_site.specs.Engines.{IsFirstRefused}
use Rattle.pdn_script.specs.Stops.{IsRefusal, stop_of}
use Rattle.pdn_script.specs.declared.stop.Stop.{Stop}
use Rattle.pdn_query.specs.Answering.{judging, wrong_column}
use Rattle.pdn_query.specs.Comparing.{comparing, or_differ}
use Rattle.pdn_query.specs.Gathering.{WrongTable}
use Rattle.pdn_query.specs.Questions.{Agreeing}
use Rattle.pdn_query.specs.Script.{Script, column_name}
use Rattle.pdn_query.specs.Walk.{Along, Leads}
use Rattle.pdn_query.specs.World.{WorldModel}
use Rattle.pdn_query.proofs.Gathers.{wrong_table}
use Rattle.pdn_query.proofs.Walks.{leads_along, known, refused}
use Rattle.std.specs.Prelude.{length}

-- the first table that isn't valid is refused
refused_table : (s : SchemaModel) (site : Site) (tables : List Rows) (table : ℕ) (cause : RowsErr) (stop : Stop) → IsFirstRefused s tables table cause →
    IsRefusal (table_of s table).name (wrong_column (table_of s table) cause) (status.BadRows site table cause) stop → WrongTable s site tables stop
refused_table s site tables table cause stop is told = record {
  at = table;
  within = is.within;
  before = is.before;
  here = record { wrong = cause; is = is.here; refused = told };
}

module _ (w : WorldModel) (s : SchemaModel) where
  pub judged_wrong : (site : Site) (tables : List Rows) (next : Script) (table : ℕ) (cause : RowsErr) (stop : Stop) → length tables ≡ length s.tables → IsFirstRefused s tables table cause →
      IsRefusal (table_of s table).name (wrong_column (table_of s table) cause) (status.BadRows site table cause) stop → Along w w (judging site 0 s.tables tables next) (stop_of stop)
  judged_wrong site tables next table cause stop count is told = wrong_table w s site tables next stop count (refused_table s site tables table cause stop is told)

  module _ (first second : List Rows) (next : Script) where
    pub found_same : IsSpot s first second None → Leads w w (comparing s first second next) next
    found_same is = known w (Agreeing s first second) (or_differ s next) None refl is

    pub found_apart : (spot : Leaf) (stop : Stop) → IsSpot s first second (Some spot) →
        IsRefusal (table_of s spot.table).name (column_name (table_of s spot.table) spot.column) (status.Disagree spot.table spot.column) stop → Along w w (comparing s first second next) (stop_of stop)
    found_apart spot stop is told = leads_along (known w (Agreeing s first second) (or_differ s next) (Some spot) refl is)
        (refused w (table_of s spot.table).name (column_name (table_of s spot.table) spot.column) (status.Disagree spot.table spot.column) stop told)
