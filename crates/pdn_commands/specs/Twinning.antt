-- What `twin` asks and says: of each query a site's view in two worlds, and where the tape is changed between them.
use Rattle.std.specs.Prelude.{◌≡◌, ℕ, List, [], ◌∷◌, ◌++◌, Option, Some, None, codes, decimal}
use Rattle.std.specs.List.{flat_map, zip}
use Rattle.pdn_base.specs.Operators.{Rows}
use Rattle.pdn_base.specs.Texts.{line, site_text}
use Rattle.pdn_base.specs.declared.site.Site.{Site}
use Rattle.pdn_base.specs.declared.site.Site.TheVariants.{A, B}
use Rattle.pdn_schema.specs.Models.{SchemaModel, TableModel}
use Rattle.pdn_sql.specs.declared.query.Query.{Query}
use Rattle.pdn_tree.specs.declared.node.Node.{Node}
use Rattle.pdn_tree.specs.Plans.{PlanModel}
use Rattle.pdn_site.specs.Meaning.{AreTables}
use Rattle.pdn_site.specs.Models.{UnitModel}
use Rattle.pdn_agree.specs.Agreement.{Union, Agree, other_tables}
use Rattle.pdn_view.specs.Lines.{view_text}
use Rattle.pdn_broker.specs.Prepared.{PreparedModel, IsPrepared, prepared_of}
use Rattle.pdn_broker.specs.Runs.{Tape}
use Rattle.pdn_broker.specs.Views.{site_view}
use Rattle.pdn_worlds.specs.TapeChange.{shift_tape}
use Rattle.pdn_twin.specs.Twins.{ChangeWords, TwinWords, changes}
use Rattle.pdn_query.specs.Answering.{query_name, judging, units_over, or_large, ticketing}
use Rattle.pdn_query.specs.Each.{each, keeping}
use Rattle.pdn_query.specs.Comparing.{comparing}
use Rattle.pdn_query.specs.Questions.{File}
use Rattle.pdn_query.specs.Script.{Script, Say, Ask, binding}
use Rattle.pdn_commands.specs.Running.{numbered}
use Rattle.pdn_commands.specs.Script.{with_inputs, with_queries, importing}

-- ---- two worlds

-- the site whose rows the second world changes
abbrev pub other_site : Site → Site
other_site A = B
other_site B = A

-- the second world has these tables of the other site
abbrev pub second_world : Site → Union → List Rows → Union
second_world A first tables = record { a = first.a; b = tables }
second_world B first tables = record { a = tables; b = first.b }

-- the rows of a file where it is there, and else the kept ones
abbrev pub given_or : Option Rows → Rows → Rows
given_or None kept = kept
given_or (Some rows) kept = rows

abbrev pub given_tables : List (Option Rows) → List Rows → List Rows
given_tables [] tables = tables
given_tables (given ∷ more) [] = []
given_tables (given ∷ more) (kept ∷ tables) = given_or given kept ∷ given_tables more tables

-- the site that looks, the schema, and both worlds
pub record TwoWorlds : Type 0 where
  pub site : Site
  pub schema : SchemaModel
  pub first : Union
  pub second : Union

-- a query in the first world and in the second, whose units are the same
abbrev pub first_ready : TwoWorlds → Node → List UnitModel → PreparedModel
first_ready w root units = prepared_of w.schema root w.first.a w.first.b units

abbrev pub second_ready : TwoWorlds → Node → List UnitModel → PreparedModel
second_ready w root units = prepared_of w.schema root w.second.a w.second.b units

-- the site's view in the first world on the tape and in the second on the changed tape, and the change
unfoldable pub twin_of : Site → PreparedModel → PreparedModel → Tape → ℕ → TwinWords
twin_of site p q tape ticket = record {
  first = site_view site p tape ticket;
  second = site_view site q (shift_tape site p q ticket tape) ticket;
  changed = changes site p q tape ticket;
}

abbrev pub twin_words : Tape → TwoWorlds → Node → List UnitModel → ℕ → TwinWords
twin_words tape w root units ticket = twin_of w.site (first_ready w root units) (second_ready w root units) tape ticket

-- Both views of a twin are equal, whatever the tape: where the worlds agree for the site, the query is ready in the first, and the
-- second's tables have values of the code's types.
abbrev pub EqualViewsLaw : Type 0
EqualViewsLaw = (tape : Tape) (w : TwoWorlds) (root : Node) (units : List UnitModel) (ticket : ℕ) → IsPrepared (first_ready w root units) → Agree w.site w.schema w.first w.second
    → AreTables w.schema w.second.a → AreTables w.schema w.second.b → (twin_words tape w root units ticket).second ≡ (twin_words tape w root units ticket).first

-- ---- which views are put

-- the first world's, and the second's
abbrev pub of_each : TwinWords → TwinWords
of_each twin = twin

-- the first world's in both places
abbrev pub of_first : TwinWords → TwinWords
of_first twin = record { first = twin.first; second = twin.first; changed = twin.changed }

abbrev pub HasEqualViews : TwinWords → Type 0
HasEqualViews twin = twin.second ≡ twin.first

-- a twin whose views are equal stays as it is
abbrev pub KeepsEqual : (TwinWords → TwinWords) → Type 0
KeepsEqual views = (twin : TwinWords) → HasEqualViews twin → views twin ≡ twin

-- ---- the text

abbrev pub twin_line : Site → ℕ → ℕ → List ℕ
twin_line site query ticket = line (codes "twin " ++ site_text site ++ codes " " ++ query_name query ++ codes " ticket " ++ decimal ticket)

abbrev pub place_text : ℕ → List ℕ
place_text place = codes " " ++ decimal place

-- a unit, and the places of its section that are changed
unfoldable pub changed_head : ℕ → List ℕ
changed_head unit = codes "changed unit " ++ decimal unit ++ codes " words"

unfoldable pub changed_line : ChangeWords → List ℕ
changed_line change = line (changed_head change.unit ++ flat_map place_text change.places)

-- the twin of the query of this number and ticket: both views, and the change of each section
unfoldable pub twin_text : Site → ℕ → ℕ → TwinWords → List ℕ
twin_text site query ticket twin = twin_line site query ticket ++ view_text twin.first ++ view_text twin.second ++ flat_map changed_line twin.changed

-- ---- what is asked

-- a table's file in a folder
abbrev pub rows_file : List ℕ → TableModel → List ℕ
rows_file folder t = folder ++ codes "/" ++ t.name ++ codes ".csv"

-- its bytes, or none where it isn't there
abbrev pub finding : List ℕ → TableModel → (Option (List ℕ) → Script) → Script
finding folder t next = Ask (File (rows_file folder t)) next

-- the rows that a file gives, where it is there
abbrev pub importing_from : TableModel → (Option Rows → Script) → Option (List ℕ) → Script
importing_from t next None = next None
importing_from t next (Some csv) = importing t csv (λ rows. next (Some rows))

abbrev pub importing_file : TableModel × Option (List ℕ) → (Option Rows → Script) → Script
importing_file file next = importing_from file.0 next file.1

-- both sites' rows of every table, A's first
abbrev pub keeping_both : SchemaModel → (Union → Script) → Script
keeping_both s next = each (keeping A) s.tables (λ a. each (keeping B) s.tables (λ b. next (record { a = a; b = b })))

-- Both sites' rows are judged, A's first, then those of the second world; then what is public of the two worlds is compared.
abbrev pub judging_worlds : Site → SchemaModel → Union → List Rows → (TwoWorlds → Script) → Script
judging_worlds site s first tables next = judging A 0 s.tables first.a (judging B 0 s.tables first.b (judging (other_site site) 0 s.tables tables (
    comparing s (other_tables site first) tables (next (record { site = site; schema = s; first = first; second = second_world site first tables })))))

-- ---- what is said

-- a query's units must pass no limit; then it takes a ticket, and its twin is put, with these views
abbrev pub twin_planned : (TwinWords → TwinWords) → Tape → TwoWorlds → ℕ → PlanModel → Script → Script
twin_planned views tape w number plan next = or_large (λ units. ticketing (λ ticket. Say (twin_text w.site number ticket (views (twin_words tape w plan.root units ticket))) next))
    (units_over w.schema plan.root w.first.a w.first.b)

abbrev pub twin_query : (TwinWords → TwinWords) → Tape → TwoWorlds → ℕ → Query → Script → Script
twin_query views tape w number query next = binding w.schema query (λ plan. twin_planned views tape w number plan next)

-- the twin of each query
abbrev pub twins_script : (TwinWords → TwinWords) → Tape → TwoWorlds → ℕ → List Query → Script
twins_script views tape w = numbered (twin_query views tape w)

-- Each table's file in the folder is read, and the queries; then the rows of those files, and the rows that both sites keep.
abbrev pub twin_script : (TwinWords → TwinWords) → Tape → Site → List ℕ → List ℕ → Script
twin_script views tape site file folder = with_inputs file (λ s sql. each (finding folder) s.tables (λ texts. with_queries sql (λ queries.
    each importing_file (zip s.tables texts) (λ given. keeping_both s (λ first.
    judging_worlds site s first (given_tables given (other_tables site first)) (λ w. twins_script views tape w 1 queries))))))
