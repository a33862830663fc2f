-- What a command asks: of the objects outside, and of what bytes and rows are by the definitions of the layers below.
use Rattle.std.specs.Prelude.{◌≡◌, ◌⊎◌, ◌≤◌, ◌^◌, ℕ, List, Option, None, Some, Result, Ok, Err, IfSome, ⊤}
use Rattle.csv.specs.Reading.{records, default_config, strip_bom}
use Rattle.pdn_base.specs.declared.site.Site.{Site}
use Rattle.pdn_base.specs.declared.site.Site.TheVariants.{A, B}
use Rattle.pdn_base.specs.declared.status.Who.{Who}
use Rattle.pdn_base.specs.declared.status.Who.TheVariants.{Files, SiteA, SiteB, Desk}
use Rattle.pdn_base.specs.declared.rows_err.RowsErr.{RowsErr}
use Rattle.pdn_base.specs.declared.value.Value.{Value}
use Rattle.pdn_base.specs.declared.marks.Label.{Label}
use Rattle.pdn_agree.specs.Spots.{IsSpot}
use Rattle.pdn_level.specs.declared.staged.Leaf.{Leaf}
use Rattle.pdn_schema.specs.Models.{SchemaModel, TableModel}
use Rattle.pdn_schema.specs.Reading.{Says, IsFirstFault}
use Rattle.pdn_schema.specs.Rows.{IsValid, IsRefused}
use Rattle.pdn_schema.specs.Words.{lines_of}
use Rattle.pdn_sql.specs.Reading.{IsFault}
use Rattle.pdn_sql.specs.Reading.{Says as SaysQueries}
use Rattle.pdn_sql.specs.declared.query.Query.{Query}
use Rattle.pdn_tree.specs.Plans.{PlanModel}
use Rattle.pdn_plan.specs.Binding.{BindGives}
use Rattle.pdn_plan.specs.declared.plan_err.PlanErr.TheVariants as unplanned
use Rattle.pdn_keeper.specs.Batches.{BatchHeld, batch_held, with_batch, kept_rows, IsAnswer}
use Rattle.pdn_keeper.specs.Import.{imported}
use Rattle.pdn_keeper.specs.declared.cause.CsvErr.TheVariants.{At}
use Rattle.pdn_keeper.specs.declared.site_keeper.Added.TheVariants as added
use Rattle.pdn_keeper.specs.declared.site_keeper.AddErr.TheVariants as refused
use Rattle.pdn_desk_keeper.specs.Desks.{DeskHeld, with_ticket}
use Rattle.pdn_script.specs.Rules.{Rules}

pub data Question : Type 0 where
  File : List ℕ → Question  -- the bytes of the file of this name, or none
  Kept : Site → List ℕ → Question  -- the rows that a site keeps of the table of this name
  Batch : Site → TableModel → ℕ → List (List Value) → Question  -- a site is to take this batch of the table
  Ticket : Question  -- the desk's next ticket, which is then taken
  SchemaIn : List ℕ → Question  -- the schema that bytes say, or the line and cause of their first fault
  QueriesIn : List ℕ → Question  -- the queries that bytes say, or the place and kind of their first fault
  Bound : SchemaModel → Query → Question  -- the plan of a query, or why it has none
  RowsIn : TableModel → List ℕ → Question  -- the rows that a CSV text gives for a table, or its first bad record and the cause
  Valid : TableModel → List (List Value) → Question  -- what is wrong with rows of a table, if anything
  Agreeing : SchemaModel → List (List (List Value)) → List (List (List Value)) → Question  -- the first public column whose values differ in two lists of tables, if any

-- why a query has no plan
pub data Unbound : Type 0 where
  Broken : ℕ → List ℕ → Unbound  -- a rule of binding: its kind, and the name at fault
  Hidden : List ℕ → Label → Unbound  -- a column of its answer isn't public

-- what a site may say to a batch
pub data Answer : Type 0 where
  New : Answer
  Again : Answer
  Differs : ℕ → Answer
  OverRows : Answer
  OverPer : ℕ → Answer

abbrev pub Reply : Question → Type 0
Reply (File name) = Option (List ℕ)
Reply (Kept site name) = List (List Value)
Reply (Batch site t number rows) = Answer
Reply Ticket = ℕ
Reply (SchemaIn bytes) = Result SchemaModel (ℕ × ℕ)
Reply (QueriesIn bytes) = Result (List Query) (ℕ × ℕ)
Reply (Bound s query) = Result PlanModel Unbound
Reply (RowsIn t bytes) = Result (List (List Value)) (ℕ × ℕ)
Reply (Valid t rows) = Option RowsErr
Reply (Agreeing s first second) = Option Leaf

-- which object is asked
abbrev pub who_of : Site → Who
who_of A = SiteA
who_of B = SiteB

abbrev pub asked_of : Question → Option Who
asked_of (File name) = Some Files
asked_of (Kept site name) = Some (who_of site)
asked_of (Batch site t number rows) = Some (who_of site)
asked_of Ticket = Some Desk
asked_of (SchemaIn bytes) = None
asked_of (QueriesIn bytes) = None
asked_of (Bound s query) = None
asked_of (RowsIn t bytes) = None
asked_of (Valid t rows) = None
asked_of (Agreeing s first second) = None

-- what the outside objects hold, each where it tells that
pub record Told : Type 0 where
  pub files : Option (List ℕ → Option (List ℕ))
  pub a : Option (List BatchHeld)
  pub b : Option (List BatchHeld)
  pub desk : Option DeskHeld

abbrev pub told_by : Option (List ℕ → Option (List ℕ)) → Option (List BatchHeld) → Option (List BatchHeld) → Option DeskHeld → Told
told_by files a b desk = record { files = files; a = a; b = b; desk = desk }

abbrev pub kept_at : Told → Site → Option (List BatchHeld)
kept_at told A = told.a
kept_at told B = told.b

abbrev pub with_kept : Told → Site → Option (List BatchHeld) → Told
with_kept told A held = record { files = told.files; a = held; b = told.b; desk = told.desk }
with_kept told B held = record { files = told.files; a = told.a; b = held; desk = told.desk }

abbrev pub with_desk : Told → Option DeskHeld → Told
with_desk told held = record { files = told.files; a = told.a; b = told.b; desk = held }

-- ---- which replies are true

-- The files hold this under the name, as far as they tell.
abbrev pub Holds : Option (List ℕ → Option (List ℕ)) → List ℕ → Option (List ℕ) → Type 0
Holds None name content = ⊤
Holds (Some held) name content = held name ≡ content

-- A site keeps these rows of the table of this name, as far as it tells.
abbrev pub Keeps : Option (List BatchHeld) → List ℕ → List (List Value) → Type 0
Keeps kept name rows = IfSome kept (λ held. rows ≡ kept_rows name held)

abbrev pub Answers : TableModel → List BatchHeld → ℕ → List (List Value) → Answer → Type 0
Answers t held number rows New = IsAnswer t held number rows (Ok added.New)
Answers t held number rows Again = IsAnswer t held number rows (Ok added.Again)
Answers t held number rows (Differs at) = (kept : Option (List Value)) × IsAnswer t held number rows (Err (refused.Differs at kept))
Answers t held number rows OverRows = (kept : ℕ) × IsAnswer t held number rows (Err (refused.OverRows kept))
Answers t held number rows (OverPer column) = (v : Value) × (kept : ℕ) × IsAnswer t held number rows (Err (refused.OverPer column v kept))

-- The desk gives its next ticket, as far as it tells. At 2 ^ 40 there is none left.
abbrev pub IsNext : Option DeskHeld → ℕ → Type 0
IsNext desk ticket = (ticket ≤ 2 ^ 40) × IfSome desk (λ held. ticket ≡ held.next)

abbrev pub IsSchemaIn : List ℕ → Result SchemaModel (ℕ × ℕ) → Type 0
IsSchemaIn bytes (Ok s) = Says bytes s
IsSchemaIn bytes (Err at) = IsFirstFault (lines_of bytes) at.0 at.1

-- a file has at most 16 queries
abbrev pub AreQueriesIn : List ℕ → Result (List Query) (ℕ × ℕ) → Type 0
AreQueriesIn bytes (Ok queries) = SaysQueries 16 bytes queries
AreQueriesIn bytes (Err at) = IsFault 16 bytes at.0 at.1

-- what binding gives
abbrev pub IsBound : SchemaModel → Query → Result PlanModel Unbound → Type 0
IsBound s query (Ok plan) = BindGives s query (Ok plan)
IsBound s query (Err (Broken kind name)) = BindGives s query (Err (unplanned.Refused kind name))
IsBound s query (Err (Hidden column label)) = BindGives s query (Err (unplanned.Forbidden column label))

abbrev pub AreRowsIn : TableModel → List ℕ → Result (List (List Value)) (ℕ × ℕ) → Type 0
AreRowsIn t bytes (Ok rows) = imported t.columns (records default_config (strip_bom bytes)) ≡ Ok rows
AreRowsIn t bytes (Err at) = imported t.columns (records default_config (strip_bom bytes)) ≡ Err (At at.0 at.1)

abbrev pub IsWrong : TableModel → List (List Value) → Option RowsErr → Type 0
IsWrong t rows None = IsValid t rows
IsWrong t rows (Some e) = IsRefused t rows e

-- the reply is true, as far as the objects tell
abbrev pub Gives : Told → (question : Question) → Reply question → Type 0
Gives told (File name) content = Holds told.files name content
Gives told (Kept site name) rows = Keeps (kept_at told site) name rows
Gives told (Batch site t number rows) answer = IfSome (kept_at told site) (λ held. Answers t held number rows answer)
Gives told Ticket ticket = IsNext told.desk ticket
Gives told (SchemaIn bytes) schema = IsSchemaIn bytes schema
Gives told (QueriesIn bytes) queries = AreQueriesIn bytes queries
Gives told (Bound s query) plan = IsBound s query plan
Gives told (RowsIn t bytes) rows = AreRowsIn t bytes rows
Gives told (Valid t rows) wrong = IsWrong t rows wrong
Gives told (Agreeing s first second) spot = IsSpot s first second spot

-- ---- what the objects hold afterwards

-- only what this site holds may have changed
abbrev pub OnlyAt : Site → Told → Told → Type 0
OnlyAt A old new = (new.files ≡ old.files) × (new.b ≡ old.b) × (new.desk ≡ old.desk)
OnlyAt B old new = (new.files ≡ old.files) × (new.a ≡ old.a) × (new.desk ≡ old.desk)

-- only what the desk holds may have changed
abbrev pub OnlyDesk : Told → Told → Type 0
OnlyDesk old new = (new.files ≡ old.files) × (new.a ≡ old.a) × (new.b ≡ old.b)

abbrev pub with_new : Told → Site → BatchHeld → Told
with_new told site batch = with_kept told site (with_batch batch (kept_at told site))

-- a ticket is taken
abbrev pub with_taken : Told → Told
with_taken told = with_desk told (with_ticket told.desk)

abbrev pub after_batch : Told → Site → BatchHeld → Answer → Told
after_batch told site batch New = with_new told site batch
after_batch told site batch Again = told
after_batch told site batch (Differs at) = told
after_batch told site batch OverRows = told
after_batch told site batch (OverPer column) = told

-- after a reply: a new batch is kept, or a ticket is taken
abbrev pub after : Told → (question : Question) → Reply question → Told
after told (File name) content = told
after told (Kept site name) rows = told
after told (Batch site t number rows) answer = after_batch told site (batch_held t.name number rows) answer
after told Ticket ticket = with_taken told
after told (SchemaIn bytes) schema = told
after told (QueriesIn bytes) queries = told
after told (Bound s query) plan = told
after told (RowsIn t bytes) rows = told
after told (Valid t rows) wrong = told
after told (Agreeing s first second) spot = told

-- where the object failed: a batch that was handed over may be kept, a ticket that was asked for taken
abbrev pub AfterFault : Told → Question → Told → Type 0
AfterFault told (File name) now = now ≡ told
AfterFault told (Kept site name) now = now ≡ told
AfterFault told (Batch site t number rows) now = (now ≡ told) ⊎ (now ≡ with_new told site (batch_held t.name number rows))
AfterFault told Ticket now = (now ≡ told) ⊎ (now ≡ with_taken told)
AfterFault told (SchemaIn bytes) now = now ≡ told
AfterFault told (QueriesIn bytes) now = now ≡ told
AfterFault told (Bound s query) now = now ≡ told
AfterFault told (RowsIn t bytes) now = now ≡ told
AfterFault told (Valid t rows) now = now ≡ told
AfterFault told (Agreeing s first second) now = now ≡ told

-- what may be asked, and what becomes of it
abbrev pub questions : Rules Question Told
questions = record { Reply = Reply; asked_of = asked_of; Gives = Gives; after = after; AfterFault = AfterFault }
