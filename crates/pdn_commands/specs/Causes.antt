-- When each status may be answered.
use Rattle.std.specs.Prelude.{◌≡◌, ◌⊎◌, ◌<◌, ◌+◌, ◌^◌, IfSome, ℕ, List, [], ◌∷◌, ◌++◌, length, take, get_or, None, Some, Option, Ok, Err, codes}
use Rattle.std.specs.List.{AllByRecursion}
use Rattle.pdn_base.specs.declared.rows_err.RowsErr.{RowsErr}
use Rattle.pdn_base.specs.declared.site.Site.{Site}
use Rattle.pdn_base.specs.declared.site.Site.TheVariants.{A, B}
use Rattle.pdn_base.specs.declared.status.Status.{Status}
use Rattle.pdn_base.specs.declared.status.Status.TheVariants as status
use Rattle.pdn_base.specs.declared.status.Who.{Who}
use Rattle.pdn_base.specs.declared.value.Value.{Value}
use Rattle.pdn_base.specs.Operators.{Rows}
use Rattle.pdn_view.specs.declared.view.Party.{Party}
use Rattle.pdn_broker.specs.Runs.{Tape}
use Rattle.pdn_schema.specs.Models.{SchemaModel, table_of}
use Rattle.pdn_schema.specs.Reading.{Says}
use Rattle.pdn_schema.specs.Rows.{IsRefused}
use Rattle.pdn_sql.specs.declared.query.Query.{Query}
use Rattle.pdn_commands.specs.Commands.{Task, Run, Check, Twin, Load, Generate, task_of}
use Rattle.pdn_commands.specs.Generated.{IsLargeNetwork, IsNetworkSpent}
use Rattle.pdn_query.specs.Answering.{IsTaken, KeepsAll, AllValid, units_over}
use Rattle.pdn_commands.specs.Running.{IsReached, AreAnswers, with_given}
use Rattle.pdn_commands.specs.Checking.{AreReported}
use Rattle.pdn_schema.specs.Printing.{text_of}
use Rattle.pdn_site.specs.Models.{UnitModel}
use Rattle.pdn_tree.specs.Plans.{PlanModel}
use Rattle.pdn_query.specs.Questions.{Told, Unbound, Broken, Hidden, IsBound, Holds, Answer, New, Again, Differs, OverRows, OverPer, Batch, Gives, with_new, with_desk, IsSchemaIn, AreQueriesIn, AreRowsIn}
use Rattle.pdn_commands.specs.Script.{table_number, loaded_text}
use Rattle.pdn_keeper.specs.Batches.{batch_held}

-- the file that a task reads besides the schema; `gen` reads none
abbrev pub file_of : Task → List ℕ
file_of (Run file workers parties) = file
file_of (Check file) = file
file_of (Twin site file folder workers) = file
file_of (Load site table number file) = file
file_of (Generate seed patients workers) = []

-- a task reads the schema and its file: each but `gen` does
abbrev pub ReadsFiles : Task → Type 0
ReadsFiles (Run file workers parties) = Unit {0}
ReadsFiles (Check file) = Unit {0}
ReadsFiles (Twin site file folder workers) = Unit {0}
ReadsFiles (Load site table number file) = Unit {0}
ReadsFiles (Generate seed patients workers) = ⊥

-- A command reads a file of this name.
abbrev pub Reads : List (List ℕ) → List ℕ → Type 0
Reads words name = (task : Task) × (task_of words ≡ Some task) × ReadsFiles task × ((name ≡ codes "net.schema") ⊎ (name ≡ file_of task))

-- A command's files are there, and the schema file is refused so.
pub record IsSchemaFault (told : Told) (words : List (List ℕ)) (line cause : ℕ) : Type 0 where
  pub task : Task
  pub asked : task_of words ≡ Some task
  pub reads : ReadsFiles task
  pub net : List ℕ
  pub text : List ℕ
  pub net_held : Holds told.files (codes "net.schema") (Some net)
  pub text_held : Holds told.files (file_of task) (Some text)
  pub is : IsSchemaIn net (Err (line, cause))

-- the schema file says this schema, and the file of this name holds these bytes
pub record Inputs (told : Option (List ℕ → Option (List ℕ))) (name : List ℕ) (s : SchemaModel) (text : List ℕ) : Type 0 where
  pub net : List ℕ
  pub net_held : Holds told (codes "net.schema") (Some net)
  pub text_held : Holds told name (Some text)
  pub says : Says net s

-- A run is asked for, its files are there, and the schema file says this schema.
pub record AskedRun (told : Told) (words : List (List ℕ)) : Type 0 where
  pub file : List ℕ
  pub workers : ℕ
  pub parties : List Party
  pub s : SchemaModel
  pub sql : List ℕ
  pub asked : task_of words ≡ Some (Run file workers parties)
  pub inputs : Inputs told.files file s sql

-- The SQL file besides says these queries.
pub record AskedQueries (told : Told) (words : List (List ℕ)) : Type 0 where
  pub run : AskedRun told words
  pub queries : List Query
  pub are : AreQueriesIn run.sql (Ok queries)

-- a query is reached that has no plan, and this is why
pub record IsUnbound (told : Told) (words : List (List ℕ)) (why : Unbound) : Type 0 where
  pub all : AskedQueries told words
  pub query : Query
  pub reached : IsReached (IsTaken told.a told.b all.run.s) told.desk all.queries query
  pub is : IsBound all.run.s query (Err why)

-- A check is asked for, its files are there, and the schema file says this schema.
pub record AskedCheck (told : Told) (words : List (List ℕ)) : Type 0 where
  pub file : List ℕ
  pub s : SchemaModel
  pub sql : List ℕ
  pub asked : task_of words ≡ Some (Check file)
  pub inputs : Inputs told.files file s sql

-- The SQL file besides says these queries.
pub record AskedReports (told : Told) (words : List (List ℕ)) : Type 0 where
  pub check : AskedCheck told words
  pub queries : List Query
  pub are : AreQueriesIn check.sql (Ok queries)

-- one of these queries is the first that has no plan, and this is why
pub record IsUnreported (told : Told) (words : List (List ℕ)) (why : Unbound) : Type 0 where
  pub all : AskedReports told words
  pub before : List Query
  pub query : Query
  pub later : List Query
  pub stands : all.queries ≡ before ++ query ∷ later
  pub bound : AllByRecursion (λ q. (plan : PlanModel) × IsBound all.check.s q (Ok plan)) before
  pub is : IsBound all.check.s query (Err why)

-- binding refuses a query so, in a run or in a check
abbrev pub CauseUnbound : Told → List (List ℕ) → Unbound → Type 0
CauseUnbound told words why = IsUnbound told words why ⊎ IsUnreported told words why

-- a query is reached that has a plan, and these rows of the tables that it scans are kept
pub record IsAsked (told : Told) (words : List (List ℕ)) : Type 0 where
  pub all : AskedQueries told words
  pub query : Query
  pub reached : IsReached (IsTaken told.a told.b all.run.s) told.desk all.queries query
  pub plan : PlanModel
  pub binds : IsBound all.run.s query (Ok plan)
  pub a : List Rows
  pub b : List Rows
  pub held_a : KeepsAll told.a plan.root 0 all.run.s.tables a
  pub held_b : KeepsAll told.b plan.root 0 all.run.s.tables b

-- the rows of this table are refused so, and those of the tables before it are valid
pub record IsFirstWrong (s : SchemaModel) (tables : List Rows) (table : ℕ) (wrong : RowsErr) : Type 0 where
  pub before : AllValid (take table s.tables) tables
  pub within : table < length s.tables
  pub here : IsRefused (table_of s table) (get_or tables table []) wrong

-- A's rows are refused so, or A's are valid and B's are refused so
abbrev pub AreWrong : SchemaModel → List Rows → List Rows → Site → ℕ → RowsErr → Type 0
AreWrong s a b A table wrong = IsFirstWrong s a table wrong
AreWrong s a b B table wrong = AllValid s.tables a × IsFirstWrong s b table wrong

-- a query is reached that scans wrong rows
pub record HasWrongRows (told : Told) (words : List (List ℕ)) (site : Site) (table : ℕ) (wrong : RowsErr) : Type 0 where
  pub asked : IsAsked told words
  pub are : AreWrong asked.all.run.s asked.a asked.b site table wrong

-- a query is reached whose rows are valid, and of which this unit is the first that passes a limit
pub record IsTooLarge (told : Told) (words : List (List ℕ)) (limit unit : ℕ) : Type 0 where
  pub asked : IsAsked told words
  pub valid_a : AllValid asked.all.run.s.tables asked.a
  pub valid_b : AllValid asked.all.run.s.tables asked.b
  pub passes : units_over asked.all.run.s asked.plan.root asked.a asked.b ≡ Err (limit, unit)

-- A query is reached whose rows are valid and whose units pass no limit, and no ticket is left.
pub record IsSpent (told : Told) (words : List (List ℕ)) : Type 0 where
  pub asked : IsAsked told words
  pub valid_a : AllValid asked.all.run.s.tables asked.a
  pub valid_b : AllValid asked.all.run.s.tables asked.b
  pub units : List UnitModel
  pub fits : units_over asked.all.run.s asked.plan.root asked.a asked.b ≡ Ok units
  pub spent : IfSome told.desk (λ held. held.next + length asked.reached.before ≡ 2 ^ 40)

-- A load is asked for, its files are there, and the schema file says this schema.
pub record AskedLoad (told : Told) (words : List (List ℕ)) : Type 0 where
  pub site : Site
  pub table : List ℕ
  pub number : ℕ
  pub file : List ℕ
  pub s : SchemaModel
  pub csv : List ℕ
  pub asked : task_of words ≡ Some (Load site table number file)
  pub inputs : Inputs told.files file s csv

-- The table besides is one of the schema.
pub record AskedTable (told : Told) (words : List (List ℕ)) : Type 0 where
  pub load : AskedLoad told words
  pub at : ℕ
  pub is : table_number load.table load.s ≡ Some at

-- The CSV file besides gives rows, and the site says this to them.
pub record IsAnswered (told : Told) (words : List (List ℕ)) (answer : Answer) : Type 0 where
  pub table : AskedTable told words
  pub rows : List (List Value)
  pub are : AreRowsIn (table_of table.load.s table.at) table.load.csv (Ok rows)
  pub says : Gives told (Batch table.load.site (table_of table.load.s table.at) table.load.number rows) answer

-- a query that breaks a rule of binding, or a load of no table of the schema
abbrev pub CausePlan : Told → List (List ℕ) → ℕ → List ℕ → Type 0
CausePlan told words kind name = CauseUnbound told words (Broken kind name)
    ⊎ ((kind ≡ 1) × (load : AskedLoad told words) × (name ≡ load.table) × (table_number load.table load.s ≡ None))

-- the SQL file of a run or of a check is refused so
abbrev pub CauseSql : Told → List (List ℕ) → ℕ → ℕ → Type 0
CauseSql told words place kind = ((run : AskedRun told words) × AreQueriesIn run.sql (Err (place, kind))) ⊎ ((check : AskedCheck told words) × AreQueriesIn check.sql (Err (place, kind)))

abbrev pub CauseBound : Told → List (List ℕ) → Option ℕ → Type 0
CauseBound told words None = IsAnswered told words OverRows
CauseBound told words (Some column) = IsAnswered told words (OverPer column)

-- Why a command may answer each status. Done and Memory have no cause here, and no other status is answered.
abbrev pub Cause : (Who → Type 0) → Told → List (List ℕ) → Status → Type 0
Cause rose told words status.Words = task_of words ≡ None
Cause rose told words (status.NoFile name) = Reads words name × Holds told.files name None
Cause rose told words (status.Unavailable who) = rose who
Cause rose told words (status.Schema line cause) = IsSchemaFault told words line cause
Cause rose told words (status.Sql place kind) = CauseSql told words place kind
Cause rose told words (status.Plan kind name) = CausePlan told words kind name
Cause rose told words (status.Forbidden column label) = CauseUnbound told words (Hidden column label)
Cause rose told words (status.TooLarge limit unit) = IsTooLarge told words limit unit ⊎ IsLargeNetwork told words limit unit
Cause rose told words (status.BadRows site table wrong) = HasWrongRows told words site table wrong
Cause rose told words status.TicketsSpent = IsSpent told words ⊎ IsNetworkSpent told words
Cause rose told words (status.Csv entry cause) = (table : AskedTable told words) × AreRowsIn (table_of table.load.s table.at) table.load.csv (Err (entry, cause))
Cause rose told words (status.BatchDiffers row) = IsAnswered told words (Differs row)
Cause rose told words (status.OverBound column) = CauseBound told words column
Cause rose told words status.Done = Unit {0}
Cause rose told words status.Memory = Unit {0}
Cause rose told words other = ⊥

-- ---- what Done comes with

-- the queries' answers, each with the views that are asked for; what the sites keep is as it was, and the desk gave a ticket for each query
pub record IsRun (tape : Tape) (told : Told) (words : List (List ℕ)) (text : List ℕ) (now : Told) : Type 0 where
  pub all : AskedQueries told words
  pub answers : AreAnswers tape all.run.parties told all.run.s 1 0 all.queries text
  pub given : now ≡ with_desk told (with_given (length all.queries) told.desk)

-- the schema and the queries' reports, and the keepers as they were
pub record IsChecked (told : Told) (words : List (List ℕ)) (text : List ℕ) (now : Told) : Type 0 where
  pub all : AskedReports told words
  pub reports : List ℕ
  pub reported : AreReported all.check.s 1 all.queries reports
  pub printed : text ≡ text_of all.check.s ++ reports
  pub kept : now ≡ told

-- the line of a batch that is now kept, or was before with these rows
abbrev pub IsLoadedBy : {told : Told} {words : List (List ℕ)} → AskedTable told words → List (List Value) → List ℕ → Told → Type 0
IsLoadedBy {told} table rows text now = let t = table_of table.load.s table.at in let load = table.load in
    (Gives told (Batch load.site t load.number rows) New × (text ≡ loaded_text (codes "new") t.name load.number (length rows)) × (now ≡ with_new told load.site (batch_held t.name load.number rows)))
    ⊎ (Gives told (Batch load.site t load.number rows) Again × (text ≡ loaded_text (codes "again") t.name load.number (length rows)) × (now ≡ told))

pub record IsLoaded (told : Told) (words : List (List ℕ)) (text : List ℕ) (now : Told) : Type 0 where
  pub table : AskedTable told words
  pub rows : List (List Value)
  pub are : AreRowsIn (table_of table.load.s table.at) table.load.csv (Ok rows)
  pub loaded : IsLoadedBy table rows text now

-- What is printed is the answer of each query over the union of both sites' rows, with the views that are asked for on this tape, the schema
-- with each query's report, or the line of the batch.
abbrev pub IsDone : Tape → Told → List (List ℕ) → List ℕ → Told → Type 0
IsDone tape told words text now = IsRun tape told words text now ⊎ IsChecked told words text now ⊎ IsLoaded told words text now
