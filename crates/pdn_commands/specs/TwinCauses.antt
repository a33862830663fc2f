-- When a twin is refused, and what its Done comes with.
use Rattle.std.specs.Prelude.{◌≡◌, ◌⊎◌, ◌+◌, ◌^◌, IfSome, ℕ, List, ◌∷◌, ◌++◌, length, None, Some, Option, Ok, Err}
use Rattle.std.specs.List.{AllByRecursion, zip}
use Rattle.pdn_base.specs.declared.rows_err.RowsErr.{RowsErr}
use Rattle.pdn_base.specs.declared.site.Site.{Site}
use Rattle.pdn_base.specs.declared.status.Status.{Status}
use Rattle.pdn_base.specs.declared.status.Status.TheVariants as status
use Rattle.pdn_base.specs.Operators.{Rows}
use Rattle.pdn_schema.specs.Models.{SchemaModel, TableModel}
use Rattle.pdn_sql.specs.declared.query.Query.{Query}
use Rattle.pdn_tree.specs.Plans.{PlanModel}
use Rattle.pdn_site.specs.Models.{UnitModel}
use Rattle.pdn_agree.specs.Agreement.{Union, other_tables}
use Rattle.pdn_agree.specs.Spots.{IsSpot}
use Rattle.pdn_broker.specs.Runs.{Tape}
use Rattle.pdn_keeper.specs.Batches.{BatchHeld}
use Rattle.pdn_query.specs.Answering.{AllValid, units_over}
use Rattle.pdn_query.specs.Each.{EachWith}
use Rattle.pdn_query.specs.Questions.{Told, Unbound, Broken, Hidden, IsBound, Holds, Keeps, AreQueriesIn, AreRowsIn, with_desk}
use Rattle.pdn_commands.specs.Causes.{Inputs, IsFirstWrong, AreWrong}
use Rattle.pdn_commands.specs.Commands.{Twin, task_of}
use Rattle.pdn_commands.specs.Running.{IsReached, AreTexts, with_given}
use Rattle.pdn_commands.specs.Twinning.{TwoWorlds, other_site, second_world, given_tables, rows_file, twin_words, twin_text}

-- ---- what a twin goes over

-- A twin is asked for, its schema file and its SQL file are there, and the first says this schema.
pub record AskedTwin (told : Told) (words : List (List ℕ)) : Type 0 where
  pub site : Site
  pub file : List ℕ
  pub folder : List ℕ
  pub workers : ℕ
  pub s : SchemaModel
  pub sql : List ℕ
  pub asked : task_of words ≡ Some (Twin site file folder workers)
  pub inputs : Inputs told.files file s sql

-- The SQL file besides says these queries, and the folder's files hold these texts, or aren't there.
pub record AskedTwins (told : Told) (words : List (List ℕ)) : Type 0 where
  pub twin : AskedTwin told words
  pub texts : List (Option (List ℕ))
  pub held : EachWith (λ (t : TableModel) text. Holds told.files (rows_file twin.folder t) text) twin.s.tables texts
  pub queries : List Query
  pub are : AreQueriesIn twin.sql (Ok queries)

-- a file that is there gives these rows
abbrev pub FileGives : TableModel × Option (List ℕ) → Option Rows → Type 0
FileGives (t, None) None = Unit {0}
FileGives (t, None) (Some rows) = ⊥
FileGives (t, Some csv) None = ⊥
FileGives (t, Some csv) (Some rows) = AreRowsIn t csv (Ok rows)

-- The first of the files with a bad record has this as its first one, and this is why.
pub record IsBadFile (files : List (TableModel × Option (List ℕ))) (entry cause : ℕ) : Type 0 where
  pub before : List (TableModel × Option (List ℕ))
  pub table : TableModel
  pub csv : List ℕ
  pub later : List (TableModel × Option (List ℕ))
  pub stands : files ≡ before ++ (table, Some csv) ∷ later
  pub good : AllByRecursion (λ file. (given : Option Rows) × FileGives file given) before
  pub bad : AreRowsIn table csv (Err (entry, cause))

-- a site keeps these rows of each table
abbrev pub KeepsEach : Option (List BatchHeld) → List TableModel → List Rows → Type 0
KeepsEach kept = EachWith (λ (t : TableModel) rows. Keeps kept t.name rows)

-- The files besides give these rows, and the sites keep these of every table.
pub record TwinRows (told : Told) (words : List (List ℕ)) : Type 0 where
  pub all : AskedTwins told words
  pub given : List (Option Rows)
  pub gives : EachWith FileGives (zip all.twin.s.tables all.texts) given
  pub first : Union
  pub held_a : KeepsEach told.a all.twin.s.tables first.a
  pub held_b : KeepsEach told.b all.twin.s.tables first.b

-- the second world's tables of the site that it changes
abbrev pub second_tables : {told : Told} {words : List (List ℕ)} → TwinRows told words → List Rows
second_tables rows = given_tables rows.given (other_tables rows.all.twin.site rows.first)

abbrev pub worlds_of : {told : Told} {words : List (List ℕ)} → TwinRows told words → TwoWorlds
worlds_of rows = record {
  site = rows.all.twin.site;
  schema = rows.all.twin.s;
  first = rows.first;
  second = second_world rows.all.twin.site rows.first (second_tables rows);
}

-- All rows of both worlds besides are valid.
pub record TwinValid (told : Told) (words : List (List ℕ)) : Type 0 where
  pub rows : TwinRows told words
  pub a : AllValid rows.all.twin.s.tables rows.first.a
  pub b : AllValid rows.all.twin.s.tables rows.first.b
  pub second : AllValid rows.all.twin.s.tables (second_tables rows)

-- The worlds besides agree in what is public.
pub record TwinAgreed (told : Told) (words : List (List ℕ)) : Type 0 where
  pub valid : TwinValid told words
  pub agree : IsSpot valid.rows.all.twin.s (other_tables valid.rows.all.twin.site valid.rows.first) (second_tables valid.rows) None

-- ---- its queries

-- a query has a plan, and its units pass no limit
pub record IsTwinTaken (w : TwoWorlds) (query : Query) : Type 0 where
  pub plan : PlanModel
  pub binds : IsBound w.schema query (Ok plan)
  pub units : List UnitModel
  pub fits : units_over w.schema plan.root w.first.a w.first.b ≡ Ok units

-- a query of a twin is reached
pub record TwinQuery (told : Told) (words : List (List ℕ)) : Type 0 where
  pub agreed : TwinAgreed told words
  pub query : Query
  pub reached : IsReached (IsTwinTaken (worlds_of agreed.valid.rows)) told.desk agreed.valid.rows.all.queries query

-- ---- causes

-- binding refuses it so
pub record IsTwinUnbound (told : Told) (words : List (List ℕ)) (why : Unbound) : Type 0 where
  pub at : TwinQuery told words
  pub is : IsBound at.agreed.valid.rows.all.twin.s at.query (Err why)

-- it has a plan, and this unit is the first that passes a limit
pub record IsTwinLarge (told : Told) (words : List (List ℕ)) (limit unit : ℕ) : Type 0 where
  pub at : TwinQuery told words
  pub plan : PlanModel
  pub binds : IsBound at.agreed.valid.rows.all.twin.s at.query (Ok plan)
  pub passes : units_over at.agreed.valid.rows.all.twin.s plan.root at.agreed.valid.rows.first.a at.agreed.valid.rows.first.b ≡ Err (limit, unit)

-- it is taken, and no ticket is left
pub record IsTwinSpent (told : Told) (words : List (List ℕ)) : Type 0 where
  pub at : TwinQuery told words
  pub taken : IsTwinTaken (worlds_of at.agreed.valid.rows) at.query
  pub spent : IfSome told.desk (λ held. held.next + length at.reached.before ≡ 2 ^ 40)

-- rows of A are refused so, or else of B, or else of the second world, at the site that it changes
abbrev pub WorldsWrong : {told : Told} {words : List (List ℕ)} → TwinRows told words → Site → ℕ → RowsErr → Type 0
WorldsWrong rows site table wrong = let s = rows.all.twin.s in AreWrong s rows.first.a rows.first.b site table wrong
    ⊎ (AllValid s.tables rows.first.a × AllValid s.tables rows.first.b × (site ≡ other_site rows.all.twin.site) × IsFirstWrong s (second_tables rows) table wrong)

-- the worlds differ first in this public column
pub record TwinDiffers (told : Told) (words : List (List ℕ)) (table column : ℕ) : Type 0 where
  pub valid : TwinValid told words
  pub spot : IsSpot valid.rows.all.twin.s (other_tables valid.rows.all.twin.site valid.rows.first) (second_tables valid.rows) (Some (record { table = table; column = column }))

-- Why a twin is refused so. Words, files that aren't there, objects that fail and a refused schema are as of every command.
abbrev pub TwinCause : Told → List (List ℕ) → Status → Type 0
TwinCause told words (status.Sql place kind) = (twin : AskedTwin told words) × AreQueriesIn twin.sql (Err (place, kind))
TwinCause told words (status.Csv entry cause) = (all : AskedTwins told words) × IsBadFile (zip all.twin.s.tables all.texts) entry cause
TwinCause told words (status.BadRows site table wrong) = (rows : TwinRows told words) × WorldsWrong rows site table wrong
TwinCause told words (status.Disagree table column) = TwinDiffers told words table column
TwinCause told words (status.Plan kind name) = IsTwinUnbound told words (Broken kind name)
TwinCause told words (status.Forbidden column label) = IsTwinUnbound told words (Hidden column label)
TwinCause told words (status.TooLarge limit unit) = IsTwinLarge told words limit unit
TwinCause told words status.TicketsSpent = IsTwinSpent told words
TwinCause told words other = ⊥

-- ---- what Done comes with

-- the text of the twin of the query of this number and ticket
pub record IsTwinText (tape : Tape) (w : TwoWorlds) (number ticket : ℕ) (query : Query) (text : List ℕ) : Type 0 where
  pub taken : IsTwinTaken w query
  pub printed : text ≡ twin_text w.site number ticket (twin_words tape w taken.plan.root taken.units ticket)

-- the text is the twins of these queries
abbrev pub AreTwins : Tape → Told → TwoWorlds → ℕ → ℕ → List Query → List ℕ → Type 0
AreTwins tape told w = AreTexts (IsTwinText tape w) told.desk

-- The worlds agree in what is public, and the text is the queries' twins; what the sites keep is as it was, and the desk gave a ticket for
-- each query. That in each twin both views are equal, and the change one to one, are laws of two worlds.
pub record IsTwinned (tape : Tape) (told : Told) (words : List (List ℕ)) (text : List ℕ) (now : Told) : Type 0 where
  pub agreed : TwinAgreed told words
  pub twins : AreTwins tape told (worlds_of agreed.valid.rows) 1 0 agreed.valid.rows.all.queries text
  pub given : now ≡ with_desk told (with_given (length agreed.valid.rows.all.queries) told.desk)
