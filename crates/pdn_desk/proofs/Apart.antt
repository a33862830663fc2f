-- What is kept of other callers' calls is of no matter to a caller.
use Rattle.std.proofs.Common.{◌≡◌, ◌≤◌, ◌^◌, ◌⊎◌, ℕ, Bool, true, false, List, [], ◌∷◌, ◌++◌, Option, None, Some, Ok, Err, refl, sym, subst, ap, ◌∙◌, inl, inr}
use Rattle.std.proofs.lemmas.Bool.{false≢true}
use Rattle.std.specs.Prelude.{length, codes, ◌==◌, ◌&&◌, IfSome, if◌then◌else◌, option_map}
use Rattle.std.specs.List.{filter, find}
use Rattle.std.proofs.lemmas.List.Elements.{filter-append}
use Rattle.std.proofs.lemmas.List.Sums.{length-filter}
use Rattle.pdn_base.specs.declared.site.Site.TheVariants.{A, B}
use Rattle.pdn_base.specs.declared.status.Status.TheVariants as status
use Rattle.pdn_base.specs.declared.status.Who.{Who}
use Rattle.pdn_keeper.specs.Batches.{BatchHeld, batch_held, with_batch}
use Rattle.pdn_schema.specs.Models.{SchemaModel}
use Rattle.pdn_http.specs.declared.call.Call.{Call}
use Rattle.pdn_http.specs.Requests.{Outcome, Silent, Refused, Get, Post}
use Rattle.pdn_desk_keeper.specs.Desks as desks
use Rattle.pdn_desk_keeper.specs.Desks.{DeskHeld, KeptCall, KeptText, IsAnswer, is_call, kept_text, count_calls, kept_call, with_call, with_ticket, after_ticket}
use Rattle.pdn_query.specs.Questions.{Question, File, Kept, Batch, Ticket, SchemaIn, QueriesIn, Bound, RowsIn, Valid, Agreeing, Reply, Answers, Answer, New, Again, Differs, OverRows, OverPer, Told, Holds, Keeps, Gives, after, AfterFault, with_new}
use Rattle.pdn_query.specs.Script.{Script, Finish, Refuse, Say, Ask}
use Rattle.pdn_query.specs.Walk.{Goes, End as Stopped}
use Rattle.pdn_query.specs.World.{Counts, RoseIn}
use Rattle.pdn_desk.specs.Calls.{with_kept}
use Rattle.pdn_desk.specs.Courses.{Course, Find, Count, Read, Keep}
use Rattle.pdn_desk.specs.Courses as courses
use Rattle.pdn_desk.specs.Laws.{is_by, IsOf, SameFor, CallersApart}
use Rattle.pdn_desk.specs.Requests.{course_of, calls_of, answering_text, getting, posting, repeating, calling}
use Rattle.pdn_desk.specs.Ways.{End, Comes}
use Rattle.pdn_desk.proofs.Repeating.{some_is}

abbrev is_some : {X : Type 0} → Option X → Bool
is_some None = false
is_some (Some x) = true

none_is : {X : Type 0} (x : X) → None ≡ Some x → ⊥
none_is x e = false≢true (ap is_some e)

-- ---- a caller's own calls

own_step : (caller number : ℕ) (c : KeptCall) (rest own : List KeptCall) (b : Bool) → (c.caller == caller) ≡ b → find (is_call caller number) rest ≡ find (is_call caller number) own
    → find (is_call caller number) (c ∷ rest) ≡ find (is_call caller number) (if b then c ∷ own else own)
own_step caller number c rest own true e same = ap (λ (o : Option KeptCall). if is_call caller number c then Some c else o) same
own_step caller number c rest own false e same = rw (e) same

own_found : (caller number : ℕ) (calls : List KeptCall) → find (is_call caller number) calls ≡ find (is_call caller number) (filter (is_by caller) calls)
own_found caller number [] = refl
own_found caller number (c ∷ calls) = own_step caller number c calls (filter (is_by caller) calls) (c.caller == caller) refl (own_found caller number calls)

module _ (caller : ℕ) (calls there : List KeptCall) (same : filter (is_by caller) there ≡ filter (is_by caller) calls) where
  kept_same : (number : ℕ) → kept_text caller number calls ≡ kept_text caller number there
  kept_same number = ap (λ (o : Option KeptCall). option_map (λ (call : KeptCall). call.kept) o)
      (own_found caller number calls ∙ ap (λ (own : List KeptCall). find (is_call caller number) own) (sym same) ∙ sym (own_found caller number there))

  count_same : count_calls caller calls ≡ count_calls caller there
  count_same = sym (length-filter (is_by caller) calls) ∙ ap (λ (own : List KeptCall). length own) (sym same) ∙ length-filter (is_by caller) there

  more_same : (more : List KeptCall) → filter (is_by caller) (there ++ more) ≡ filter (is_by caller) (calls ++ more)
  more_same more = filter-append (is_by caller) there more ∙ ap (λ (own : List KeptCall). own ++ filter (is_by caller) more) same ∙ sym (filter-append (is_by caller) calls more)

-- ---- what the objects hold

module _ (caller : ℕ) {one other : Told} (s : SameFor caller one other) where
  -- what holds of the keeper's content here, holds there
  desk_same : (P Q : DeskHeld → Type 0) → (P s.held → Q s.held_there) → IfSome one.desk P → IfSome other.desk Q
  desk_same P Q f here = subst (λ (d : Option DeskHeld). IfSome d Q) (sym s.told_there) (f (subst (λ (d : Option DeskHeld). IfSome d P) s.told here))

  moved : (now : Told) → now ≡ one → SameFor caller now other
  moved now e = subst (λ (t : Told). SameFor caller t other) (sym e) s

  gives_same : (question : Question) (reply : Reply question) → Gives one question reply → Gives other question reply
  gives_same (File name) content g = subst (λ (f : Option (List ℕ → Option (List ℕ))). Holds f name content) (sym s.files) g
  gives_same (Kept A name) rows g = subst (λ (k : Option (List BatchHeld)). Keeps k name rows) (sym s.a) g
  gives_same (Kept B name) rows g = subst (λ (k : Option (List BatchHeld)). Keeps k name rows) (sym s.b) g
  gives_same (Batch A t number rows) answer g = subst (λ (k : Option (List BatchHeld)). IfSome k (λ held. Answers t held number rows answer)) (sym s.a) g
  gives_same (Batch B t number rows) answer g = subst (λ (k : Option (List BatchHeld)). IfSome k (λ held. Answers t held number rows answer)) (sym s.b) g
  gives_same Ticket ticket (few, g) = (few, desk_same (λ held. ticket ≡ held.next) (λ held. ticket ≡ held.next) (λ e. e ∙ sym s.next) g)
  gives_same (SchemaIn bytes) reply g = g
  gives_same (QueriesIn bytes) reply g = g
  gives_same (Bound schema query) reply g = g
  gives_same (RowsIn t bytes) reply g = g
  gives_same (Valid t rows) reply g = g
  gives_same (Agreeing schema first second) reply g = g

  taken_same : SameFor caller (after one Ticket 0) (after other Ticket 0)
  taken_same = record {
    files = s.files;
    a = s.a;
    b = s.b;
    held = record s.held { next = after_ticket s.held.next };
    held_there = record s.held_there { next = after_ticket s.held_there.next };
    told = ap with_ticket s.told;
    told_there = ap with_ticket s.told_there;
    next = ap after_ticket s.next;
    calls = s.calls;
  }

  kept_more : (call : Call) (kept : KeptText) → SameFor caller (with_kept one call kept) (with_kept other call kept)
  kept_more call kept = let c = kept_call call.caller call.number kept in record {
    files = s.files;
    a = s.a;
    b = s.b;
    held = record s.held { calls = s.held.calls ++ c ∷ [] };
    held_there = record s.held_there { calls = s.held_there.calls ++ c ∷ [] };
    told = ap (with_call c) s.told;
    told_there = ap (with_call c) s.told_there;
    next = s.next;
    calls = more_same caller s.held.calls s.held_there.calls s.calls (c ∷ []);
  }

  batch_same : (site : _) (batch : BatchHeld) → SameFor caller (with_new one site batch) (with_new other site batch)
  batch_same A batch = record { files = s.files; a = ap (λ (k : Option (List BatchHeld)). with_batch batch k) s.a; b = s.b; held = s.held; held_there = s.held_there; told = s.told; told_there = s.told_there; next = s.next; calls = s.calls }
  batch_same B batch = record { files = s.files; a = s.a; b = ap (λ (k : Option (List BatchHeld)). with_batch batch k) s.b; held = s.held; held_there = s.held_there; told = s.told; told_there = s.told_there; next = s.next; calls = s.calls }

  after_same : (question : Question) (reply : Reply question) → SameFor caller (after one question reply) (after other question reply)
  after_same (File name) reply = s
  after_same (Kept site name) reply = s
  after_same (Batch site t number rows) New = batch_same site (batch_held t.name number rows)
  after_same (Batch site t number rows) Again = s
  after_same (Batch site t number rows) (Differs at) = s
  after_same (Batch site t number rows) OverRows = s
  after_same (Batch site t number rows) (OverPer column) = s
  after_same Ticket reply = taken_same
  after_same (SchemaIn bytes) reply = s
  after_same (QueriesIn bytes) reply = s
  after_same (Bound schema query) reply = s
  after_same (RowsIn t bytes) reply = s
  after_same (Valid t rows) reply = s
  after_same (Agreeing schema first second) reply = s

  abbrev Fault : Question → Told → Type 0
  Fault question now = (last : Told) × AfterFault other question last × SameFor caller now last

  fault_same : (question : Question) (now : Told) → AfterFault one question now → Fault question now
  fault_same (File name) now e = (other, refl, moved now e)
  fault_same (Kept site name) now e = (other, refl, moved now e)
  fault_same (Batch site t number rows) now (inl e) = (other, inl refl, moved now e)
  fault_same (Batch site t number rows) now (inr e) = (with_new other site (batch_held t.name number rows), inr refl, subst (λ (n : Told). SameFor caller n (with_new other site (batch_held t.name number rows))) (sym e) (batch_same site (batch_held t.name number rows)))
  fault_same Ticket now (inl e) = (other, inl refl, moved now e)
  fault_same Ticket now (inr e) = (after other Ticket 0, inr refl, subst (λ (n : Told). SameFor caller n (after other Ticket 0)) (sym e) taken_same)
  fault_same (SchemaIn bytes) now e = (other, refl, moved now e)
  fault_same (QueriesIn bytes) now e = (other, refl, moved now e)
  fault_same (Bound schema query) now e = (other, refl, moved now e)
  fault_same (RowsIn t bytes) now e = (other, refl, moved now e)
  fault_same (Valid t rows) now e = (other, refl, moved now e)
  fault_same (Agreeing schema first second) now e = (other, refl, moved now e)

module _ (caller : ℕ) (rose : Who → Type 0) where
  goes_same : (one other : Told) → SameFor caller one other → (script : Script) (out : List ℕ) (end : Stopped) (now : Told) → Goes rose one script out end now → (last : Told) × Goes rose other script out end last × SameFor caller now last
  goes_same one other s Finish out end now (none, same, ends) = (other, (none, refl, ends), moved caller s now same)
  goes_same one other s (Refuse refused line) out end now (none, same, ends) = (other, (none, refl, ends), moved caller s now same)
  goes_same one other s (Say text rest) out end now (inl (none, same, ends)) = (other, inl (none, refl, ends), moved caller s now same)
  goes_same one other s (Say text rest) out end now (inr (inl (k, put, same, rise, ends))) = (other, inr (inl (k, put, refl, rise, ends)), moved caller s now same)
  goes_same one other s (Say text rest) out end now (inr (inr (more, put, later))) =
      let r = goes_same one other s rest more end now later in (r.0, inr (inr (more, put, r.1)), r.2)
  goes_same one other s (Ask question next) out end now (inl (none, same, ends)) = (other, inl (none, refl, ends), moved caller s now same)
  goes_same one other s (Ask question next) out end now (inr (inl (none, fault, fails))) =
      let r = fault_same caller s question now fault in (r.0, inr (inl (none, r.1, fails)), r.2)
  goes_same one other s (Ask question next) out end now (inr (inr (reply, gives, later))) =
      let r = goes_same (after one question reply) (after other question reply) (after_same caller s question reply) (next reply) out end now later in
      (r.0, inr (inr (reply, gives_same caller s question reply gives, r.1)), r.2)

  -- a course that asks of this caller's calls alone
  abbrev CourseOf : Course → Type 0
  CourseOf (courses.Reply status body) = Unit {0}
  CourseOf (Find call next) = (call.caller ≡ caller) × ((found : Option KeptText) → CourseOf (next found))
  CourseOf (Count from next) = (from ≡ caller) × ((count : ℕ) → CourseOf (next count))
  CourseOf (Read text next) = (query : _) → CourseOf (next query)
  CourseOf (courses.Answer script next) = (body : List ℕ) → CourseOf (next body)
  CourseOf (Keep call kept) = call.caller ≡ caller

  found_there : (one other : Told) → SameFor caller one other → (from number : ℕ) (found : Option KeptText) → from ≡ caller → IsAnswer one.desk (desks.Find from number (Ok found)) → IsAnswer other.desk (desks.Find from number (Ok found))
  found_there one other s from number found e answer = desk_same caller s (λ held. found ≡ kept_text from number held.calls) (λ held. found ≡ kept_text from number held.calls)
      (λ is. is ∙ subst (λ (c : ℕ). kept_text c number s.held.calls ≡ kept_text c number s.held_there.calls) (sym e) (kept_same caller s.held.calls s.held_there.calls s.calls number)) answer

  counted_there : (one other : Told) → SameFor caller one other → (from count : ℕ) → from ≡ caller → IsAnswer one.desk (desks.Count from (Ok count)) → IsAnswer other.desk (desks.Count from (Ok count))
  counted_there one other s from count e answer = desk_same caller s (λ held. count ≡ count_calls from held.calls) (λ held. count ≡ count_calls from held.calls)
      (λ is. is ∙ subst (λ (c : ℕ). count_calls c s.held.calls ≡ count_calls c s.held_there.calls) (sym e) (count_same caller s.held.calls s.held_there.calls s.calls)) answer

  abbrev There : Told → Course → End → Told → Type 0
  There other course end now = (last : Told) × Comes rose other course end last × SameFor caller now last

  comes_same : (one other : Told) → SameFor caller one other → (course : Course) (end : End) (now : Told) → CourseOf course → Comes rose one course end now → There other course end now
  comes_same one other s (courses.Reply status body) end now of (same, made) = (other, (refl, made), moved caller s now same)
  comes_same one other s (Find call next) end now of (inl (same, is)) = (other, inl (refl, is), moved caller s now same)
  comes_same one other s (Find call next) end now of (inr (inl (same, rise, made))) = (other, inr (inl (refl, rise, made)), moved caller s now same)
  comes_same one other s (Find call next) end now (e, of) (inr (inr (found, answer, c))) =
      let r = comes_same one other s (next found) end now (of found) c in (r.0, inr (inr (found, found_there one other s call.caller call.number found e answer, r.1)), r.2)
  comes_same one other s (Count from next) end now of (inl (same, is)) = (other, inl (refl, is), moved caller s now same)
  comes_same one other s (Count from next) end now of (inr (inl (same, rise, made))) = (other, inr (inl (refl, rise, made)), moved caller s now same)
  comes_same one other s (Count from next) end now (e, of) (inr (inr (count, answer, c))) =
      let r = comes_same one other s (next count) end now (of count) c in (r.0, inr (inr (count, counted_there one other s from count e answer, r.1)), r.2)
  comes_same one other s (Read text next) end now of (inl (same, is)) = (other, inl (refl, is), moved caller s now same)
  comes_same one other s (Read text next) end now of (inr (inl (place, kind, same, fault, made))) = (other, inr (inl (place, kind, refl, fault, made)), moved caller s now same)
  comes_same one other s (Read text next) end now of (inr (inr (query, says, c))) =
      let r = comes_same one other s (next query) end now (of query) c in (r.0, inr (inr (query, says, r.1)), r.2)
  comes_same one other s (courses.Answer script next) end now of (inl ((out, w), is)) =
      let r = goes_same one other s _ out _ now w in (r.0, inl ((out, r.1), is), r.2)
  comes_same one other s (courses.Answer script next) end now of (inr (inl (refused, line, (out, w), made))) =
      let r = goes_same one other s _ out _ now w in (r.0, inr (inl (refused, line, (out, r.1), made)), r.2)
  comes_same one other s (courses.Answer script next) end now of (inr (inr (body, mid, (out, w), c))) =
      let r = goes_same one other s _ out _ mid w in
      let q = comes_same mid r.0 r.2 (next body) end now (of body) c in (q.0, inr (inr (body, r.0, (out, r.1), q.1)), q.2)
  comes_same one other s (Keep call kept) end now of (inl (same, is)) = (other, inl (refl, is), moved caller s now same)
  comes_same one other s (Keep call kept) end now of (inr (inl (inl same, rise, is))) = (other, inr (inl (inl refl, rise, is)), moved caller s now same)
  comes_same one other s (Keep call kept) end now of (inr (inl (inr more, rise, is))) =
      (with_kept other call kept, inr (inl (inr refl, rise, is)), subst (λ (n : Told). SameFor caller n (with_kept other call kept)) (sym more) (kept_more caller s call kept))
  comes_same one other s (Keep call kept) end now of (inr (inr (more, is))) =
      (with_kept other call kept, inr (inr (refl, is)), subst (λ (n : Told). SameFor caller n (with_kept other call kept)) (sym more) (kept_more caller s call kept))

  -- ---- the rows

  getting_of : (found : Option KeptText) → CourseOf (getting found)
  getting_of None = tt
  getting_of (Some kept) = tt

  repeating_of : (text : List ℕ) (kept : KeptText) (b : Bool) → CourseOf (if b then courses.Reply 200 kept.body else courses.failing 409 (codes "differs"))
  repeating_of text kept true = tt
  repeating_of text kept false = tt

  counting_of : (schema : SchemaModel) (call : Call) (text : List ℕ) (b : Bool) → call.caller ≡ caller → CourseOf (if b then courses.failing 429 (codes "spent") else answering_text schema call text)
  counting_of schema call text true e = tt
  counting_of schema call text false e = λ query body. e

  posting_of : (schema : SchemaModel) (call : Call) (text : List ℕ) (found : Option KeptText) → call.caller ≡ caller → CourseOf (posting schema call text found)
  posting_of schema call text None e = (e, λ count. counting_of schema call text _ e)
  posting_of schema call text (Some kept) e = repeating_of text kept _

  course_is_of : (schema : SchemaModel) (outcome : Outcome) (course : Course) → IsOf caller outcome → course_of schema outcome ≡ Some course → CourseOf course
  course_is_of schema Silent course of e = absurd (none_is course e)
  course_is_of schema (Refused refusal) course of e = subst CourseOf (some_is _ course e) tt
  course_is_of schema (Get call) course of e = subst CourseOf (some_is _ course e) (of, getting_of)
  course_is_of schema (Post call text) course of e = subst CourseOf (some_is _ course e) (of, λ found. posting_of schema call text found of)

pub callers_apart : CallersApart
callers_apart before now s caller outcome course one other new end of e same comes =
    comes_same caller (RoseIn before now) one other same course end new (course_is_of caller (RoseIn before now) s outcome course of e) comes
