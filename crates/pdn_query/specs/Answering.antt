-- How a query is answered: over the rows that both sites keep of the tables that its plan scans, with the text that says so.
use Rattle.std.specs.Prelude.{◌≡◌, ℕ, ◌+◌, ◌^◌, ◌==◌, nat_lt, if◌then◌else◌, Bool, true, false, ◌||◌, List, [], ◌∷◌, ◌++◌, length, map, Option, Some, None, Ok, Err, codes, decimal}
use Rattle.std.specs.List.{flat_map}
use Rattle.pdn_base.specs.Codes.{code_text}
use Rattle.pdn_base.specs.Operators.{Rows}
use Rattle.pdn_base.specs.Texts.{line, refusal}
use Rattle.pdn_base.specs.declared.rows_err.RowsErr.{RowsErr}
use Rattle.pdn_base.specs.declared.rows_err.RowsErr.TheVariants as rows_err
use Rattle.pdn_base.specs.declared.site.Site.{Site}
use Rattle.pdn_base.specs.declared.site.Site.TheVariants.{A, B}
use Rattle.pdn_base.specs.declared.status.Status.TheVariants as status
use Rattle.pdn_base.specs.declared.value.Value.{Value}
use Rattle.pdn_base.specs.declared.value.Value.TheVariants as value
use Rattle.pdn_schema.specs.Models.{SchemaModel, TableModel}
use Rattle.pdn_schema.specs.Rows.{IsValid, union}
use Rattle.pdn_sql.specs.declared.query.Query.{Query}
use Rattle.pdn_tree.specs.declared.node.Node.{Node, fold-Node}
use Rattle.pdn_tree.specs.declared.node.Node.TheOpen.{Node-F}
use Rattle.pdn_tree.specs.declared.plan.OutColumn.{OutColumn}
use Rattle.pdn_plan.specs.Answer.{answer}
use Rattle.pdn_tree.specs.Plans.{PlanModel}
use Rattle.pdn_level.specs.Levels.{segments_of}
use Rattle.pdn_site.specs.Models.{UnitModel}
use Rattle.pdn_site.specs.Compiling.{Compiled, compiled}
use Rattle.pdn_site.specs.NetMeaning.{site_dirs}
use Rattle.pdn_view.specs.declared.view.Party.{Party}
use Rattle.pdn_view.specs.Lines.{view_text}
use Rattle.pdn_broker.specs.Runs.{Tape}
use Rattle.pdn_broker.specs.Prepared.{PreparedModel, prepared_of}
use Rattle.pdn_keeper.specs.Batches.{BatchHeld}
use Rattle.pdn_query.specs.Questions.{Kept, Valid, Ticket, Keeps, IsBound}
use Rattle.pdn_query.specs.Showing.{ThreeViews, views_on, view_in}
use Rattle.pdn_query.specs.Script.{Script, Refuse, Say, Ask, refuse, binding, column_name}

-- ---- the rows that are asked for

abbrev pub scans_step : ℕ → Node-F Bool → Bool
scans_step at (Node-F.Scan table) = table == at
scans_step at (Node-F.Filter child cond) = child
scans_step at (Node-F.Project child columns) = child
scans_step at (Node-F.Join left right on) = left || right
scans_step at (Node-F.Group child keys having) = child
scans_step at (Node-F.Count child) = child
scans_step at (Node-F.Distinct child) = child
scans_step at (Node-F.Number child partition order) = child
scans_step at (Node-F.Top child order limit) = child

-- whether a tree scans the table of this number
abbrev pub scans : ℕ → Node → Bool
scans at = fold-Node Bool (scans_step at)

-- a site's rows of a table that is scanned; of any other none
abbrev pub asking_if : Bool → Site → TableModel → (Rows → Script) → Script
asking_if true site t next = Ask (Kept site t.name) next
asking_if false site t next = next []

-- a site's rows of these tables in order, the first of which is table `at`
abbrev pub asking : Site → Node → ℕ → List TableModel → (List Rows → Script) → Script
asking site root at [] next = next []
asking site root at (t ∷ ts) next = asking_if (scans at root) site t (λ rows. asking site root (at + 1) ts (λ more. next (rows ∷ more)))

-- ---- what is refused

abbrev pub wrong_column : TableModel → RowsErr → List ℕ
wrong_column t rows_err.TooMany = []
wrong_column t (rows_err.PerValue column) = column_name t column
wrong_column t (rows_err.WrongType row column) = column_name t column

abbrev pub refuse_rows : Site → ℕ → TableModel → RowsErr → Script
refuse_rows site at t wrong = Refuse (status.BadRows site at wrong) (refusal t.name (wrong_column t wrong) (status.BadRows site at wrong))

abbrev pub or_wrong : Site → ℕ → TableModel → Script → Option RowsErr → Script
or_wrong site at t next None = next
or_wrong site at t next (Some wrong) = refuse_rows site at t wrong

-- a site's rows of these tables are judged in order
abbrev pub judging : Site → ℕ → List TableModel → List Rows → Script → Script
judging site at [] tables next = next
judging site at (t ∷ ts) [] next = next
judging site at (t ∷ ts) (rows ∷ tables) next = Ask (Valid t rows) (or_wrong site at t (judging site (at + 1) ts tables next))

-- the units of a plan's tree over both sites' tables, or the first limit that is passed
abbrev pub units_over : SchemaModel → Node → List Rows → List Rows → Compiled
units_over s root a b = compiled s root (segments_of s root []) (site_dirs a b (segments_of s root []))

-- what follows the units, or the refusal that names the limit and the unit
abbrev pub or_large : (List UnitModel → Script) → Compiled → Script
or_large next (Ok units) = next units
or_large next (Err passed) = refuse (status.TooLarge passed.0 passed.1)

-- what follows the next ticket, or the refusal where none is left
abbrev pub or_spent : (ℕ → Script) → ℕ → Script
or_spent next ticket = if nat_lt ticket (2 ^ 40) then next ticket else refuse status.TicketsSpent

abbrev pub ticketing : (ℕ → Script) → Script
ticketing next = Ask Ticket (or_spent next)

-- ---- the text of an answer

abbrev pub query_name : ℕ → List ℕ
query_name query = codes "query " ++ decimal query

-- the head line of the answer to the query of this number and ticket, with so many rows
abbrev pub head_line : ℕ → ℕ → ℕ → List ℕ
head_line query ticket rows = line (query_name query ++ codes " ticket " ++ decimal ticket ++ codes " rows " ++ decimal rows)

-- texts, each behind a comma
abbrev pub after_commas : List (List ℕ) → List ℕ
after_commas [] = []
after_commas (text ∷ texts) = codes "," ++ text ++ after_commas texts

-- texts, parted by commas
abbrev pub by_commas : List (List ℕ) → List ℕ
by_commas [] = []
by_commas (text ∷ texts) = text ++ after_commas texts

-- a number in decimal, or a code as it reads
abbrev pub value_text : Value → List ℕ
value_text (value.Int n) = decimal n
value_text (value.Code code) = code_text code

abbrev pub row_line : List Value → List ℕ
row_line row = line (by_commas (map value_text row))

abbrev pub names_line : List OutColumn → List ℕ
names_line columns = line (by_commas (map (λ (c : OutColumn). c.name) columns))

-- the answer to the query of this number and ticket: its head line, the names of its columns, and its rows
abbrev pub answer_text : ℕ → ℕ → List OutColumn → Rows → List ℕ
answer_text query ticket columns rows = head_line query ticket (length rows) ++ names_line columns ++ flat_map row_line rows

-- the text of these parties' views, one after the other
abbrev pub shown_text : List Party → ThreeViews → List ℕ
shown_text parties views = flat_map (λ party. view_text (view_in party views)) parties

-- ---- what is asked and said

-- both sites' rows are judged, A's first, and then the units over them; what follows are these units
abbrev pub judging_both : SchemaModel → Node → List Rows → List Rows → (List UnitModel → Script) → Script
judging_both s root a b next = judging A 0 s.tables a (judging B 0 s.tables b (or_large next (units_over s root a b)))

-- A's rows are asked for, and then B's, and judged; what follows are both and the units over them
abbrev pub gathering : SchemaModel → PlanModel → (List Rows → List Rows → List UnitModel → Script) → Script
gathering s plan next = asking A plan.root 0 s.tables (λ a. asking B plan.root 0 s.tables (λ b. judging_both s plan.root a b (next a b)))

-- then a ticket is taken; what follows are that ticket, the query as it is made ready, and the rows that it means over both sites' union
abbrev pub answering : SchemaModel → Query → PlanModel → (ℕ → PreparedModel → Rows → Script) → Script
answering s query plan next = gathering s plan (λ a b units. ticketing (λ ticket. next ticket (prepared_of s plan.root a b units) (answer s (union a b) query)))

-- a query is bound first; what follows are its plan, its ticket, its rows, and what the parties see of it on this tape
abbrev pub querying : Tape → SchemaModel → Query → (PlanModel → ℕ → Rows → ThreeViews → Script) → Script
querying tape s query next = binding s query (λ plan. answering s query plan (λ ticket p rows. next plan ticket rows (views_on p tape ticket)))

-- what follows is the text of its answer, with the views that these parties have of it on this tape
abbrev pub query_answer : Tape → List Party → SchemaModel → ℕ → Query → (List ℕ → Script) → Script
query_answer tape parties s number query next = querying tape s query (λ plan ticket rows views. next (answer_text number ticket plan.columns rows ++ shown_text parties views))

abbrev pub query_script : Tape → List Party → SchemaModel → ℕ → Query → Script → Script
query_script tape parties s number query next = query_answer tape parties s number query (λ text. Say text next)

-- ---- what an answer is

-- a site keeps these rows of a table that is scanned; of any other there are none
abbrev pub KeepsIf : Bool → Option (List BatchHeld) → List ℕ → Rows → Type 0
KeepsIf true kept name rows = Keeps kept name rows
KeepsIf false kept name rows = rows ≡ []

-- the same of each of these tables, the first of which is table `at`
abbrev pub KeepsAll : Option (List BatchHeld) → Node → ℕ → List TableModel → List Rows → Type 0
KeepsAll kept root at [] tables = tables ≡ []
KeepsAll kept root at (t ∷ ts) [] = ⊥
KeepsAll kept root at (t ∷ ts) (rows ∷ tables) = KeepsIf (scans at root) kept t.name rows × KeepsAll kept root (at + 1) ts tables

-- the rows of each of these tables are valid
abbrev pub AllValid : List TableModel → List Rows → Type 0
AllValid [] tables = Unit {0}
AllValid (t ∷ ts) [] = Unit {0}
AllValid (t ∷ ts) (rows ∷ tables) = IsValid t rows × AllValid ts tables

-- A query is taken: it has a plan, both sites' rows of the tables that it scans are valid, and its units pass no limit.
pub record IsTaken (kept_a kept_b : Option (List BatchHeld)) (s : SchemaModel) (query : Query) : Type 0 where
  pub plan : PlanModel
  pub binds : IsBound s query (Ok plan)
  pub a : List Rows
  pub b : List Rows
  pub held_a : KeepsAll kept_a plan.root 0 s.tables a
  pub held_b : KeepsAll kept_b plan.root 0 s.tables b
  pub valid_a : AllValid s.tables a
  pub valid_b : AllValid s.tables b
  pub units : List UnitModel
  pub fits : units_over s plan.root a b ≡ Ok units

-- The text is the answer to the query of this number and ticket: the rows that it means over the union of both sites' tables, and then
-- the views that these parties have of it on this tape.
pub record IsAnswer (tape : Tape) (parties : List Party) (kept_a kept_b : Option (List BatchHeld)) (s : SchemaModel) (number ticket : ℕ) (query : Query) (text : List ℕ) : Type 0 where
  pub taken : IsTaken kept_a kept_b s query
  pub printed : text ≡ answer_text number ticket taken.plan.columns (answer s (union taken.a taken.b) query)
      ++ shown_text parties (views_on (prepared_of s taken.plan.root taken.a taken.b taken.units) tape ticket)

-- Without views an answer is the same on every tape.
abbrev pub SameOnTapes : Type 0
SameOnTapes = (tape other : Tape) (kept_a kept_b : Option (List BatchHeld)) (s : SchemaModel) (number ticket : ℕ) (query : Query) (text : List ℕ) →
    IsAnswer tape [] kept_a kept_b s number ticket query text → IsAnswer other [] kept_a kept_b s number ticket query text
