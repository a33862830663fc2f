-- The causes of a run, a check and a load, and what their Done comes with.
use Rattle.std.proofs.Common.{◌≡◌, ℕ, ◌+◌, ◌<◌, ◌^◌, ◌++◌, List, [], ◌∷◌, length, None, Some, Option, Result, Ok, Err, inl, inr, refl, sym, subst, ◌∙◌, append-nil, append_assoc}
use Rattle.std.specs.List.{AllByRecursion}
use Rattle.pdn_base.specs.declared.rows_err.RowsErr.{RowsErr}
use Rattle.pdn_base.specs.declared.site.Site.{Site}
use Rattle.pdn_base.specs.declared.site.Site.TheVariants.{A, B}
use Rattle.pdn_base.specs.declared.status.Status.{Status}
use Rattle.pdn_base.specs.declared.status.Status.TheVariants as status
use Rattle.pdn_base.specs.declared.status.Who.{Who}
use Rattle.pdn_base.specs.declared.value.Value.{Value}
use Rattle.pdn_schema.specs.Models.{SchemaModel, table_of}
use Rattle.pdn_schema.specs.Printing.{text_of}
use Rattle.pdn_schema.specs.Rows.{union}
use Rattle.pdn_sql.specs.declared.query.Query.{Query}
use Rattle.pdn_base.specs.Operators.{Rows}
use Rattle.pdn_view.specs.declared.view.Party.{Party}
use Rattle.pdn_broker.specs.Prepared.{PreparedModel, prepared_of}
use Rattle.pdn_broker.specs.Runs.{Tape}
use Rattle.pdn_plan.specs.Answer.{answer}
use Rattle.pdn_tree.specs.Plans.{PlanModel}
use Rattle.pdn_desk_keeper.specs.Desks.{DeskHeld, with_ticket}
use Rattle.pdn_query.specs.Answering.{units_over, answer_text, shown_text, answering, query_script, IsTaken, IsAnswer}
use Rattle.pdn_query.specs.Showing.{views_on}
use Rattle.pdn_query.specs.Questions.{Told, Unbound, Broken, Hidden, IsBound, AreQueriesIn, AreRowsIn, Answer, New, Again, Differs, OverRows, OverPer, Batch, Gives, IsNext, after, with_desk, with_taken}
use Rattle.pdn_query.specs.Script.{Script, Finish, Say, or_unbound}
use Rattle.pdn_query.specs.Walk.{Refusals, Texts}
use Rattle.pdn_commands.specs.Causes.{AskedRun, AskedQueries, AskedCheck, AskedReports, AskedLoad, AskedTable, Inputs, IsAsked, AreWrong, Cause, IsDone, file_of, ReadsFiles}
use Rattle.pdn_commands.specs.Checking.{reporting, query_report, AreReported}
use Rattle.pdn_commands.specs.Commands.{Task, Run, Check, Load, task_of, run_script, check_script}
use Rattle.pdn_commands.specs.Running.{queries_script, with_given, IsReached}
use Rattle.pdn_commands.specs.Script.{with_inputs, answered, load_table, load_script, table_number}
use Rattle.pdn_commands.proofs.Refusing.{in_inputs, in_read, in_asked, in_judged, in_large, in_given, in_numbered, from_first, all_given}
use Rattle.pdn_commands.proofs.Saying.{text_inputs, text_read, text_asked, text_judged, text_large, text_given, bound_text, numbered_text}

-- why a refusal has a status: Done and Memory have none
abbrev pub Refused : (Who → Type 0) → Told → List (List ℕ) → Status → Type 0
Refused rose told words status.Done = ⊥
Refused rose told words status.Memory = ⊥
Refused rose told words other = Cause rose told words other

-- ---- each refusal has its cause
module _ (tape : Tape) (rose : Who → Type 0) (told : Told) (words : List (List ℕ)) where
  abbrev Caused : Script → Type 0
  Caused script = Refusals told (Refused rose told words) script

  wrong_caused : (asked : IsAsked told words) (site : Site) (at : ℕ) (e : RowsErr) → AreWrong asked.all.run.s asked.a asked.b site at e → Refused rose told words (status.BadRows site at e)
  wrong_caused asked site at e are = record { asked = asked; are = are }

  -- the same, where the desk holds this
  abbrev CausedAt : Option DeskHeld → Script → Type 0
  CausedAt desk script = Refusals (with_desk told desk) (Refused rose told words) script

  -- a query's rows are asked for, judged and taken
  planned_caused : (all : AskedQueries told words) (query : Query) (next : ℕ → PreparedModel → Rows → Script) → (reached : IsReached (IsTaken told.a told.b all.run.s) told.desk all.queries query) → (plan : PlanModel) →
      IsBound all.run.s query (Ok plan) → (IsTaken told.a told.b all.run.s query → (ticket : ℕ) → ticket < 2 ^ 40 → IsNext (with_given (length reached.before) told.desk) ticket → (p : PreparedModel) (rows : Rows) →
      CausedAt (with_ticket (with_given (length reached.before) told.desk)) (next ticket p rows)) → CausedAt (with_given (length reached.before) told.desk) (answering all.run.s query plan next)
  planned_caused all query next reached plan binds more = let now : Told = with_desk told (with_given (length reached.before) told.desk) in
      in_asked now (Refused rose told words) A plan.root 0 all.run.s.tables _ (λ a ha. in_asked now (Refused rose told words) B plan.root 0 all.run.s.tables _ (λ b hb.
      let asked : IsAsked told words = record { all = all; query = query; reached = reached; plan = plan; binds = binds; a = a; b = b; held_a = ha; held_b = hb } in
      in_judged now (Refused rose told words) A 0 all.run.s.tables a _ (λ k place e same before l refused. wrong_caused asked A place e (subst (λ (n : ℕ). AreWrong all.run.s a b A n e) (from_first k place same) (record { before = before; within = l; here = refused }))) (λ va.
      in_judged now (Refused rose told words) B 0 all.run.s.tables b _ (λ k place e same before l refused. wrong_caused asked B place e (subst (λ (n : ℕ). AreWrong all.run.s a b B n e) (from_first k place same) (va, record { before = before; within = l; here = refused }))) (λ vb.
      in_large now (Refused rose told words) _ (units_over all.run.s plan.root a b) (λ limit unit passes. inl (record { asked = asked; valid_a = va; valid_b = vb; passes = passes }))
      (λ units fits. in_given now (Refused rose told words) (λ ticket. next ticket (prepared_of all.run.s plan.root a b units) (answer all.run.s (union a b) query))
      (λ ticket most is. inl (record { asked = asked; valid_a = va; valid_b = vb; units = units; fits = fits; spent = all_given told.desk (length reached.before) ticket most is }))
      (λ ticket few is. more (record { plan = plan; binds = binds; a = a; b = b; held_a = ha; held_b = hb; valid_a = va; valid_b = vb; units = units; fits = fits }) ticket few is (prepared_of all.run.s plan.root a b units)
      (answer all.run.s (union a b) query)))))))

  -- a query's plan is asked for first
  bound_caused : (all : AskedQueries told words) (query : Query) → IsReached (IsTaken told.a told.b all.run.s) told.desk all.queries query → (desk : Option DeskHeld) (next : PlanModel → Script) →
      ((bound : PlanModel) → IsBound all.run.s query (Ok bound) → CausedAt desk (next bound)) → (reply : Result PlanModel Unbound) → IsBound all.run.s query reply → CausedAt desk (or_unbound next reply)
  bound_caused all query reached desk next more (Ok bound) binds = more bound binds
  bound_caused all query reached desk next more (Err (Broken kind name)) is = inl (inl (record { all = all; query = query; reached = reached; is = is }))
  bound_caused all query reached desk next more (Err (Hidden column label)) is = inl (record { all = all; query = query; reached = reached; is = is })

  queries_caused : (all : AskedQueries told words) → Caused (queries_script tape all.run.parties all.run.s 1 all.queries)
  queries_caused all = in_numbered told (Refused rose told words) (IsTaken told.a told.b all.run.s) all.queries (query_script tape all.run.parties all.run.s) (λ number before later query next e taken left more.
      let reached : IsReached (IsTaken told.a told.b all.run.s) told.desk all.queries query = record { before = before; later = later; stands = e; taken = taken; left = left } in
      bound_caused all query reached (with_given (length before) told.desk) _ (λ plan binds.
      planned_caused all query (λ ticket p rows. Say (answer_text number ticket plan.columns rows ++ shown_text all.run.parties (views_on p tape ticket)) next) reached plan binds (λ is ticket few given p rows. more is ticket few given)))

  answered_caused : (table : AskedTable told words) (rows : List (List Value)) → AreRowsIn (table_of table.load.s table.at) table.load.csv (Ok rows) → (answer : Answer) →
      Gives told (Batch table.load.site (table_of table.load.s table.at) table.load.number rows) answer →
      Refusals (after told (Batch table.load.site (table_of table.load.s table.at) table.load.number rows) answer) (Refused rose told words) (answered (table_of table.load.s table.at) table.load.number (length rows) (λ text. Say text Finish) answer)
  answered_caused table rows are New says = tt
  answered_caused table rows are Again says = tt
  answered_caused table rows are (Differs at) says = record { table = table; rows = rows; are = are; says = says }
  answered_caused table rows are OverRows says = record { table = table; rows = rows; are = are; says = says }
  answered_caused table rows are (OverPer column) says = record { table = table; rows = rows; are = are; says = says }

  load_caused : (load : AskedLoad told words) (at : Option ℕ) → table_number load.table load.s ≡ at → Caused (load_table load.site load.table load.number load.s load.csv at)
  load_caused load None e = inr (refl, load, refl, e)
  load_caused load (Some at) e = let table : AskedTable told words = record { load = load; at = at; is = e } in λ read is. in_read told (Refused rose told words) status.Csv _ (AreRowsIn (table_of load.s at) load.csv) read is
      (λ entry cause are. (table, are)) (λ rows are answer says. answered_caused table rows are answer says)

  -- a query of a check
  unreported : (all : AskedReports told words) (before : List Query) (query : Query) (later : List Query) → all.queries ≡ before ++ query ∷ later →
      AllByRecursion (λ q. (plan : PlanModel) × IsBound all.check.s q (Ok plan)) before → (next : PlanModel → Script) → ((plan : PlanModel) → IsBound all.check.s query (Ok plan) → Caused (next plan)) →
      (reply : Result PlanModel Unbound) → IsBound all.check.s query reply → Caused (or_unbound next reply)
  unreported all before query later stands bound next more (Ok plan) binds = more plan binds
  unreported all before query later stands bound next more (Err (Broken kind name)) is =
      inl (inr (record { all = all; before = before; query = query; later = later; stands = stands; bound = bound; is = is }))
  unreported all before query later stands bound next more (Err (Hidden column label)) is =
      inr (record { all = all; before = before; query = query; later = later; stands = stands; bound = bound; is = is })

  all_bound : (s : SchemaModel) (before : List Query) (query : Query) → AllByRecursion (λ q. (plan : PlanModel) × IsBound s q (Ok plan)) before → (plan : PlanModel) × IsBound s query (Ok plan) →
      AllByRecursion (λ q. (plan : PlanModel) × IsBound s q (Ok plan)) (before ++ query ∷ [])
  all_bound s [] query bound is = (is, tt)
  all_bound s (q ∷ before) query bound is = (bound.0, all_bound s before query bound.1 is)

  reports_caused : (all : AskedReports told words) (number : ℕ) (before queries : List Query) → all.queries ≡ before ++ queries → AllByRecursion (λ q. (plan : PlanModel) × IsBound all.check.s q (Ok plan)) before →
      (next : List ℕ → Script) → ((text : List ℕ) → Caused (next text)) → Caused (reporting all.check.s number queries next)
  reports_caused all number before [] e bound next more = more []
  reports_caused all number before (query ∷ queries) e bound next more = unreported all before query queries e bound _ (λ plan binds.
      reports_caused all (number + 1) (before ++ query ∷ []) queries (e ∙ sym (append_assoc before (query ∷ []) queries)) (all_bound all.check.s before query bound (plan, binds))
      (λ text. next (query_report all.check.s number query plan ++ text)) (λ text. more (query_report all.check.s number query plan ++ text)))

  task_inputs : (task : Task) (next : SchemaModel → List ℕ → Script) → task_of words ≡ Some task → ReadsFiles task → ((s : SchemaModel) (text : List ℕ) → Inputs told.files (file_of task) s text → Caused (next s text)) →
      Caused (with_inputs (file_of task) next)
  task_inputs task next e reads more = in_inputs told (Refused rose told words) (file_of task) next (λ file is h. ((task, e, reads, is), h))
      (λ net text hn ht line cause is. record { task = task; asked = e; reads = reads; net = net; text = text; net_held = hn; text_held = ht; is = is }) more

  pub run_caused : (file : List ℕ) (workers : ℕ) (parties : List Party) → task_of words ≡ Some (Run file workers parties) → Caused (run_script tape parties file)
  run_caused file workers parties e = task_inputs (Run file workers parties) _ e tt (λ s sql inputs read is.
      let run : AskedRun told words = record { file = file; workers = workers; parties = parties; s = s; sql = sql; asked = e; inputs = inputs } in
      in_read told (Refused rose told words) status.Sql _ (AreQueriesIn sql) read is (λ place kind are. inl (run, are))
      (λ queries are. queries_caused (record { run = run; queries = queries; are = are })))

  pub check_caused : (file : List ℕ) → task_of words ≡ Some (Check file) → Caused (check_script file)
  check_caused file e = task_inputs (Check file) _ e tt (λ s sql inputs read is.
      let check : AskedCheck told words = record { file = file; s = s; sql = sql; asked = e; inputs = inputs } in
      in_read told (Refused rose told words) status.Sql _ (AreQueriesIn sql) read is (λ place kind are. inr (check, are))
      (λ queries are. reports_caused (record { check = check; queries = queries; are = are }) 1 [] queries refl tt (λ text. Say (text_of s ++ text) Finish) (λ text. tt)))

  pub load_task_caused : (site : Site) (table : List ℕ) (number : ℕ) (file : List ℕ) → task_of words ≡ Some (Load site table number file) → Caused (load_script site table number file)
  load_task_caused site table number file e = task_inputs (Load site table number file) _ e tt (λ s csv inputs.
      load_caused (record { site = site; table = table; number = number; file = file; s = s; csv = csv; asked = e; inputs = inputs }) (table_number table s) refl)

-- ---- what Done comes with

module _ (told : Told) where
  planned_text : (tape : Tape) (parties : List Party) (Q : List ℕ → Told → Type 0) (s : SchemaModel) (number : ℕ) (query : Query) (next : Script) (plan : PlanModel) → IsBound s query (Ok plan) →
      ((ticket : ℕ) (text : List ℕ) → ticket < 2 ^ 40 → IsNext told.desk ticket → IsAnswer tape parties told.a told.b s number ticket query text → Texts (with_taken told) (λ more now. Q (text ++ more) now) next) →
      Texts told Q (answering s query plan (λ ticket p rows. Say (answer_text number ticket plan.columns rows ++ shown_text parties (views_on p tape ticket)) next))
  planned_text tape parties Q s number query next plan binds more = text_asked told Q A plan.root 0 s.tables _ (λ a ha. text_asked told Q B plan.root 0 s.tables _ (λ b hb.
      text_judged told Q A 0 s.tables a _ (λ va. text_judged told Q B 0 s.tables b _ (λ vb. text_large told Q _ (units_over s plan.root a b) (λ units fits.
      let text : ℕ → List ℕ = λ ticket. answer_text number ticket plan.columns (answer s (union a b) query) ++ shown_text parties (views_on (prepared_of s plan.root a b units) tape ticket) in
      text_given told Q (λ ticket. Say (text ticket) next) (λ ticket few is. more ticket (text ticket) few is (record {
        taken = record { plan = plan; binds = binds; a = a; b = b; held_a = ha; held_b = hb; valid_a = va; valid_b = vb; units = units; fits = fits };
        printed = refl;
      })))))))

  reports_text : (Q : List ℕ → Told → Type 0) (s : SchemaModel) (number : ℕ) (queries : List Query) (next : List ℕ → Script) → ((text : List ℕ) → AreReported s number queries text → Texts told Q (next text)) →
      Texts told Q (reporting s number queries next)
  reports_text Q s number [] next done = done [] refl
  reports_text Q s number (query ∷ queries) next done = bound_text told Q s query _ (λ plan binds. reports_text Q s (number + 1) queries (λ more. next (query_report s number query plan ++ more))
      (λ more are. done (query_report s number query plan ++ more) (plan, more, binds, refl, are)))

module _ (tape : Tape) (told : Told) (words : List (List ℕ)) where
  answered_text : (table : AskedTable told words) (rows : List (List Value)) → AreRowsIn (table_of table.load.s table.at) table.load.csv (Ok rows) → (answer : Answer) →
      Gives told (Batch table.load.site (table_of table.load.s table.at) table.load.number rows) answer →
      Texts (after told (Batch table.load.site (table_of table.load.s table.at) table.load.number rows) answer) (IsDone tape told words) (answered (table_of table.load.s table.at) table.load.number (length rows) (λ text. Say text Finish) answer)
  answered_text table rows are New says = inr (inr (record { table = table; rows = rows; are = are; loaded = inl (says, append-nil _, refl) }))
  answered_text table rows are Again says = inr (inr (record { table = table; rows = rows; are = are; loaded = inr (says, append-nil _, refl) }))
  answered_text table rows are (Differs at) says = tt
  answered_text table rows are OverRows says = tt
  answered_text table rows are (OverPer column) says = tt

  load_text : (load : AskedLoad told words) (at : Option ℕ) → table_number load.table load.s ≡ at → Texts told (IsDone tape told words) (load_table load.site load.table load.number load.s load.csv at)
  load_text load None e = tt
  load_text load (Some at) e = λ read is. text_read told (IsDone tape told words) status.Csv _ (AreRowsIn (table_of load.s at) load.csv) read is
      (λ rows are answer says. answered_text (record { load = load; at = at; is = e }) rows are answer says)

  pub run_text : (file : List ℕ) (workers : ℕ) (parties : List Party) → task_of words ≡ Some (Run file workers parties) → Texts told (IsDone tape told words) (run_script tape parties file)
  run_text file workers parties e = text_inputs told (IsDone tape told words) file _ (λ s sql inputs read is.
      text_read told (IsDone tape told words) status.Sql _ (AreQueriesIn sql) read is (λ queries are.
      numbered_text told (IsAnswer tape parties told.a told.b s) (query_script tape parties s)
      (λ desk Q number query next more. bound_text (with_desk told desk) Q s query _ (λ plan binds. planned_text (with_desk told desk) tape parties Q s number query next plan binds more))
      (IsDone tape told words) queries (λ text answers. inl (record {
        all = record { run = record { file = file; workers = workers; parties = parties; s = s; sql = sql; asked = e; inputs = inputs }; queries = queries; are = are };
        answers = answers;
        given = refl;
      }))))

  pub check_text : (file : List ℕ) → task_of words ≡ Some (Check file) → Texts told (IsDone tape told words) (check_script file)
  check_text file e = text_inputs told (IsDone tape told words) file _ (λ s sql inputs read is.
      text_read told (IsDone tape told words) status.Sql _ (AreQueriesIn sql) read is (λ queries are. reports_text told (IsDone tape told words) s 1 queries (λ text. Say (text_of s ++ text) Finish)
      (λ text reported. inr (inl (record {
        all = record { check = record { file = file; s = s; sql = sql; asked = e; inputs = inputs }; queries = queries; are = are };
        reports = text;
        reported = reported;
        printed = append-nil _;
        kept = refl;
      })))))

  pub load_task_text : (site : Site) (table : List ℕ) (number : ℕ) (file : List ℕ) → task_of words ≡ Some (Load site table number file) → Texts told (IsDone tape told words) (load_script site table number file)
  load_task_text site table number file e = text_inputs told (IsDone tape told words) file _ (λ s csv inputs.
      load_text (record { site = site; table = table; number = number; file = file; s = s; csv = csv; asked = e; inputs = inputs }) (table_number table s) refl)
