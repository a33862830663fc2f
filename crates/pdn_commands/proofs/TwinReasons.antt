-- The causes of a twin, and what its Done comes with.
use Rattle.std.proofs.Common.{◌≡◌, ℕ, ◌<◌, ◌^◌, ◌++◌, List, length, Some, Option, Result, Ok, Err, inl, inr, refl, subst}
use Rattle.std.specs.List.{zip}
use Rattle.pdn_base.specs.declared.rows_err.RowsErr.{RowsErr}
use Rattle.pdn_base.specs.declared.site.Site.{Site}
use Rattle.pdn_base.specs.declared.site.Site.TheVariants.{A, B}
use Rattle.pdn_base.specs.declared.status.Status.{Status}
use Rattle.pdn_base.specs.declared.status.Status.TheVariants as status
use Rattle.pdn_base.specs.declared.status.Who.{Who}
use Rattle.pdn_base.specs.Operators.{Rows}
use Rattle.pdn_schema.specs.Models.{SchemaModel}
use Rattle.pdn_sql.specs.declared.query.Query.{Query}
use Rattle.pdn_tree.specs.Plans.{PlanModel}
use Rattle.pdn_agree.specs.Agreement.{other_tables}
use Rattle.pdn_broker.specs.Runs.{Tape}
use Rattle.pdn_desk_keeper.specs.Desks.{DeskHeld, with_ticket}
use Rattle.pdn_query.specs.Answering.{units_over, AllValid}
use Rattle.pdn_query.specs.Each.{keeping}
use Rattle.pdn_query.specs.Questions.{Told, Unbound, Broken, Hidden, IsBound, Holds, Keeps, IsNext, AreQueriesIn, with_desk, with_taken}
use Rattle.pdn_query.specs.Script.{Script, or_unbound}
use Rattle.pdn_query.specs.Walk.{Refusals, Texts}
use Rattle.pdn_commands.specs.Causes.{IsFirstWrong, AreWrong}
use Rattle.pdn_commands.specs.Commands.{Twin, task_of}
use Rattle.pdn_commands.specs.Outcomes.{HasCause}
use Rattle.pdn_commands.specs.Running.{with_given}
use Rattle.pdn_commands.specs.TwinCauses.{AskedTwin, AskedTwins, TwinRows, TwinValid, TwinAgreed, TwinQuery, IsTwinTaken, IsTwinText, IsTwinned, FileGives, second_tables, worlds_of}
use Rattle.pdn_commands.specs.Twinning.{TwoWorlds, other_site, rows_file, finding, importing_file, judging_worlds, of_each, twin_planned, twin_query, twins_script, twin_script}
use Rattle.pdn_commands.proofs.Refusing.{in_inputs, in_read, in_each, in_files, in_judged, in_compared, in_large, in_given, in_numbered, from_first, all_given}
use Rattle.pdn_commands.proofs.Saying.{text_inputs, text_read, text_each, text_file, text_judged, text_compared, text_large, text_given, bound_text, numbered_text}

-- why a refusal has a status: Done and Memory have none
abbrev pub Refused : (Who → Type 0) → Told → List (List ℕ) → Status → Type 0
Refused rose told words status.Done = ⊥
Refused rose told words status.Memory = ⊥
Refused rose told words other = HasCause rose told words other

-- ---- each refusal has its cause
module _ (tape : Tape) (rose : Who → Type 0) (told : Told) (words : List (List ℕ)) where
  abbrev Caused : Script → Type 0
  Caused script = Refusals told (Refused rose told words) script

  -- the same, where the desk holds this
  abbrev CausedAt : Option DeskHeld → Script → Type 0
  CausedAt desk script = Refusals (with_desk told desk) (Refused rose told words) script

  -- a query's plan is asked for first
  bound_caused : (at : TwinQuery told words) (desk : Option DeskHeld) (next : PlanModel → Script) → ((plan : PlanModel) → IsBound at.agreed.valid.rows.all.twin.s at.query (Ok plan) → CausedAt desk (next plan)) →
      (reply : Result PlanModel Unbound) → IsBound at.agreed.valid.rows.all.twin.s at.query reply → CausedAt desk (or_unbound next reply)
  bound_caused at desk next more (Ok plan) binds = more plan binds
  bound_caused at desk next more (Err (Broken kind name)) is = inr (record { at = at; is = is })
  bound_caused at desk next more (Err (Hidden column label)) is = inr (record { at = at; is = is })

  planned_caused : (at : TwinQuery told words) (number : ℕ) (next : Script) (plan : PlanModel) → IsBound at.agreed.valid.rows.all.twin.s at.query (Ok plan) →
      (IsTwinTaken (worlds_of at.agreed.valid.rows) at.query → (ticket : ℕ) → ticket < 2 ^ 40 → IsNext (with_given (length at.reached.before) told.desk) ticket → CausedAt (with_ticket (with_given (length at.reached.before) told.desk)) next) →
      CausedAt (with_given (length at.reached.before) told.desk) (twin_planned of_each tape (worlds_of at.agreed.valid.rows) number plan next)
  planned_caused at number next plan binds more =
      let now : Told = with_desk told (with_given (length at.reached.before) told.desk) in
      let rows : TwinRows told words = at.agreed.valid.rows in
      in_large now (Refused rose told words) _ (units_over rows.all.twin.s plan.root rows.first.a rows.first.b) (λ limit unit passes. inr (record { at = at; plan = plan; binds = binds; passes = passes }))
      (λ units fits. let taken : IsTwinTaken (worlds_of rows) at.query = record { plan = plan; binds = binds; units = units; fits = fits } in
      in_given now (Refused rose told words) _ (λ ticket most is. inr (record { at = at; taken = taken; spent = all_given told.desk (length at.reached.before) ticket most is })) (λ ticket few is. more taken ticket few is))

  queries_caused : (agreed : TwinAgreed told words) → Caused (twins_script of_each tape (worlds_of agreed.valid.rows) 1 agreed.valid.rows.all.queries)
  queries_caused agreed = let w : TwoWorlds = worlds_of agreed.valid.rows in
      in_numbered told (Refused rose told words) (IsTwinTaken w) agreed.valid.rows.all.queries (twin_query of_each tape w) (λ number before later query next e taken left more.
      let at : TwinQuery told words = record { agreed = agreed; query = query; reached = record { before = before; later = later; stands = e; taken = taken; left = left } } in
      bound_caused at (with_given (length before) told.desk) _ (λ plan binds. planned_caused at number next plan binds more))

  -- ---- the worlds

  wrong_first : (rows : TwinRows told words) (site : Site) (at : ℕ) (e : RowsErr) → AreWrong rows.all.twin.s rows.first.a rows.first.b site at e → Refused rose told words (status.BadRows site at e)
  wrong_first rows site at e are = inr (rows, inl are)

  wrong_second : (rows : TwinRows told words) (at : ℕ) (e : RowsErr) → AllValid rows.all.twin.s.tables rows.first.a → AllValid rows.all.twin.s.tables rows.first.b → IsFirstWrong rows.all.twin.s (second_tables rows) at e →
      Refused rose told words (status.BadRows (other_site rows.all.twin.site) at e)
  wrong_second rows at e va vb are = inr (rows, inr (va, vb, refl, are))

  worlds_caused : (rows : TwinRows told words) → Caused (judging_worlds rows.all.twin.site rows.all.twin.s rows.first (second_tables rows) (λ w. twins_script of_each tape w 1 rows.all.queries))
  worlds_caused rows = let s : SchemaModel = rows.all.twin.s in let a : List Rows = rows.first.a in let b : List Rows = rows.first.b in
      in_judged told (Refused rose told words) A 0 s.tables a _ (λ k place e same before l refused. wrong_first rows A place e (subst (λ (n : ℕ). AreWrong s a b A n e) (from_first k place same) (record { before = before; within = l; here = refused }))) (λ va.
      in_judged told (Refused rose told words) B 0 s.tables b _ (λ k place e same before l refused. wrong_first rows B place e (subst (λ (n : ℕ). AreWrong s a b B n e) (from_first k place same) (va, record { before = before; within = l; here = refused }))) (λ vb.
      in_judged told (Refused rose told words) (other_site rows.all.twin.site) 0 s.tables (second_tables rows) _ (λ k place e same before l refused.
      wrong_second rows place e va vb (subst (λ (n : ℕ). IsFirstWrong s (second_tables rows) n e) (from_first k place same) (record { before = before; within = l; here = refused }))) (λ vc.
      let valid : TwinValid told words = record { rows = rows; a = va; b = vb; second = vc } in
      λ spot is. in_compared told (Refused rose told words) s (other_tables rows.all.twin.site rows.first) (second_tables rows) _ spot is (λ at differs. inr (record { valid = valid; spot = differs }))
      (λ same. queries_caused (record { valid = valid; agree = same })))))

  pub twin_caused : (site : Site) (file folder : List ℕ) (workers : ℕ) → task_of words ≡ Some (Twin site file folder workers) → Caused (twin_script of_each tape site file folder)
  twin_caused site file folder workers e = in_inputs told (Refused rose told words) file _ (λ name is h. inl ((Twin site file folder workers, e, tt, is), h))
      (λ net text hn ht line cause is. inl (record { task = Twin site file folder workers; asked = e; reads = tt; net = net; text = text; net_held = hn; text_held = ht; is = is }))
      (λ s sql inputs. let twin : AskedTwin told words = record { site = site; file = file; folder = folder; workers = workers; s = s; sql = sql; asked = e; inputs = inputs } in
      in_each told (Refused rose told words) (finding folder) (λ t text. Holds told.files (rows_file folder t) text) (λ t next more text h. more text h) s.tables _ (λ texts held.
      λ read is. in_read told (Refused rose told words) status.Sql _ (AreQueriesIn sql) read is (λ place kind are. inr (twin, are)) (λ queries are.
      let all : AskedTwins told words = record { twin = twin; texts = texts; held = held; queries = queries; are = are } in
      in_files told (Refused rose told words) (zip s.tables texts) _ (λ entry cause bad. inr (all, bad)) (λ given gives.
      in_each told (Refused rose told words) (keeping A) (λ t rows. Keeps told.a t.name rows) (λ t next more rows h. more rows h) s.tables _ (λ a ha.
      in_each told (Refused rose told words) (keeping B) (λ t rows. Keeps told.b t.name rows) (λ t next more rows h. more rows h) s.tables _ (λ b hb.
      worlds_caused (record { all = all; given = given; gives = gives; first = record { a = a; b = b }; held_a = ha; held_b = hb })))))))

-- ---- what Done comes with
module _ (tape : Tape) (told : Told) (words : List (List ℕ)) where
  query_text : (w : TwoWorlds) (desk : Option DeskHeld) (Q : List ℕ → Told → Type 0) (number : ℕ) (query : Query) (next : Script) →
      ((ticket : ℕ) (text : List ℕ) → ticket < 2 ^ 40 → IsNext desk ticket → IsTwinText tape w number ticket query text → Texts (with_taken (with_desk told desk)) (λ more now. Q (text ++ more) now) next) →
      Texts (with_desk told desk) Q (twin_query of_each tape w number query next)
  query_text w desk Q number query next more = let now : Told = with_desk told desk in
      bound_text now Q w.schema query _ (λ plan binds. text_large now Q _ (units_over w.schema plan.root w.first.a w.first.b) (λ units fits.
      text_given now Q _ (λ ticket few is. more ticket _ few is (record { taken = record { plan = plan; binds = binds; units = units; fits = fits }; printed = refl }))))

  queries_text : (agreed : TwinAgreed told words) → Texts told (IsTwinned tape told words) (twins_script of_each tape (worlds_of agreed.valid.rows) 1 agreed.valid.rows.all.queries)
  queries_text agreed = let w : TwoWorlds = worlds_of agreed.valid.rows in
      numbered_text told (IsTwinText tape w) (twin_query of_each tape w) (query_text w) (IsTwinned tape told words) agreed.valid.rows.all.queries (λ text twins. record { agreed = agreed; twins = twins; given = refl })

  worlds_text : (rows : TwinRows told words) → Texts told (IsTwinned tape told words) (judging_worlds rows.all.twin.site rows.all.twin.s rows.first (second_tables rows) (λ w. twins_script of_each tape w 1 rows.all.queries))
  worlds_text rows = let s : SchemaModel = rows.all.twin.s in let Q : List ℕ → Told → Type 0 = IsTwinned tape told words in
      text_judged told Q A 0 s.tables rows.first.a _ (λ va. text_judged told Q B 0 s.tables rows.first.b _ (λ vb. text_judged told Q (other_site rows.all.twin.site) 0 s.tables (second_tables rows) _ (λ vc.
      λ spot is. text_compared told Q s (other_tables rows.all.twin.site rows.first) (second_tables rows) _ spot is
      (λ same. queries_text (record { valid = record { rows = rows; a = va; b = vb; second = vc }; agree = same })))))

  pub twin_text : (site : Site) (file folder : List ℕ) (workers : ℕ) → task_of words ≡ Some (Twin site file folder workers) → Texts told (IsTwinned tape told words) (twin_script of_each tape site file folder)
  twin_text site file folder workers e = let Q : List ℕ → Told → Type 0 = IsTwinned tape told words in
      text_inputs told Q file _ (λ s sql inputs. let twin : AskedTwin told words = record { site = site; file = file; folder = folder; workers = workers; s = s; sql = sql; asked = e; inputs = inputs } in
      text_each told (finding folder) (λ t text. Holds told.files (rows_file folder t) text) Q (λ t next more text h. more text h) s.tables _ (λ texts held.
      λ read is. text_read told Q status.Sql _ (AreQueriesIn sql) read is (λ queries are.
      let all : AskedTwins told words = record { twin = twin; texts = texts; held = held; queries = queries; are = are } in
      text_each told importing_file FileGives Q (text_file told Q) (zip s.tables texts) _ (λ given gives.
      text_each told (keeping A) (λ t rows. Keeps told.a t.name rows) Q (λ t next more rows h. more rows h) s.tables _ (λ a ha.
      text_each told (keeping B) (λ t rows. Keeps told.b t.name rows) Q (λ t next more rows h. more rows h) s.tables _ (λ b hb.
      worlds_text (record { all = all; given = given; gives = gives; first = record { a = a; b = b }; held_a = ha; held_b = hb })))))))
