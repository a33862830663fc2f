-- A text is answered.
use Rattle.std.proofs.Common.{◌≡◌, ◌≤◌, ℕ, List, [], ◌∷◌, ◌++◌, length, Option, None, Some, Result, Ok, Err, refl, sym, subst, ap, arith, inl, inr}
use Rattle.std.specs.Prelude.{IfSome, map}
use Rattle.pdn_base.specs.Operators.{Rows}
use Rattle.pdn_base.specs.declared.status.Status.{Status}
use Rattle.pdn_base.specs.declared.status.Status.TheVariants as status
use Rattle.pdn_base.specs.declared.status.Who.{Who}
use Rattle.pdn_base.specs.declared.status.Who.TheVariants.{Sink}
use Rattle.pdn_schema.specs.Models.{SchemaModel}
use Rattle.pdn_sql.specs.declared.query.Query.{Query}
use Rattle.pdn_sql.specs.Grammar.{file}
use Rattle.pdn_sql.specs.Reading.{Says as SaysQueries}
use Rattle.pdn_tree.specs.Plans.{PlanModel}
use Rattle.pdn_keeper.specs.declared.site_keeper.KeepErr.{KeepErr}
use Rattle.pdn_keeper.specs.declared.site_keeper.KeepErr.TheVariants as unkept
use Rattle.pdn_desk_keeper.specs.Desks.{DeskHeld, Step, Ticket, Stands, kept_text, with_ticket}
use Rattle.pdn_desk_keeper.specs.Runs.{IsRun}
use Rattle.pdn_reply.specs.Bodies.{answer_text}
use Rattle.pdn_script.specs.declared.stop.Stop.{Stop}
use Rattle.pdn_script.specs.declared.stop.Stop.TheVariants as stop
use Rattle.pdn_script.specs.Stops.{stop_of, IsRefusal}
use Rattle.pdn_query.specs.Answering.{querying}
use Rattle.pdn_query.specs.DeskCalls.{AsksTickets}
use Rattle.pdn_query.specs.Questions.{Told, OnlyDesk, questions}
use Rattle.pdn_query.specs.Script.{Script, Finish, Refuse, Say, Ask}
use Rattle.pdn_query.specs.Walk.{Goes, Follows, Closes, Along, Leads, fault, End as Stopped, Finished, PutFailed, Refused, NoMemory as OutOfMemory}
use Rattle.pdn_query.specs.World.{WorldModel, RoseIn, NotFallen}
use Rattle.pdn_query.proofs.DeskCalls.{follows_asked}
use Rattle.pdn_query.proofs.Walks.{not_fallen, only_both}
use Rattle.pdn_desk.specs.Courses.{Course, Answer, Read}
use Rattle.pdn_desk.specs.Replies.{refusing}
use Rattle.pdn_desk.specs.Requests.{answer_script}
use Rattle.pdn_desk.specs.Ways.{End, Makes, NoMemory, Came, On, StopMakes, StopsShort, IsUnsaid}
use Rattle.pdn_desk.proofs.Coming.{later_on, stays}

-- ---- the query of a text

none_said : (bytes : List ℕ) → SaysQueries 1 bytes [] → ⊥
unfolding file
none_said bytes (l, made, says) = omega (arith, ap (λ (xs : List Query). length xs) made)

-- a text that says queries, of which there may be one, says one
pub one_query : (bytes : List ℕ) (queries : List Query) → SaysQueries 1 bytes queries → length queries ≤ 1 → length queries ≡ 1
one_query bytes [] says few = absurd (none_said bytes says)
one_query bytes (query ∷ queries) says few = omega (arith, few)

-- ---- the desk's calls stay

abbrev line_of : Stopped → List ℕ
line_of (Refused refused line) = line
line_of other = []

abbrev ends_with : Stopped → Status
ends_with Finished = status.Done
ends_with OutOfMemory = status.Memory
ends_with PutFailed = status.Unavailable Sink
ends_with (Refused refused line) = refused

closes : (rose : Who → Type 0) (end : Stopped) → Closes rose end (line_of end) (ends_with end)
closes rose Finished = (refl, refl)
closes rose OutOfMemory = (refl, refl)
closes rose PutFailed = (refl, refl)
closes rose (Refused refused line) = (refl, inl refl)

pub goes_asked : (rose : Who → Type 0) (told : Told) (script : Script) (out : List ℕ) (end : Stopped) (now : Told) → Goes rose told script out end now → AsksTickets told.desk now.desk
goes_asked rose told script out end now w = follows_asked rose told script (out ++ line_of end) (ends_with end) now
    (record { end = end; front = out; last = line_of end; whole = refl; goes = w; closes = closes rose end })

pub along_asked : (old new : WorldModel) (script : Script) (end : Stopped) → Along old new script end → AsksTickets old.told.desk new.told.desk
along_asked old new script end w = goes_asked (RoseIn old.counts new.counts) old.told script w.out end new.told w.goes

pub leads_asked : (old new : WorldModel) (script : Script) → Leads old new script Finish → AsksTickets old.told.desk new.told.desk
leads_asked old new script l = goes_asked (RoseIn old.counts new.counts) old.told script (l.front ++ []) Finished new.told
    (l.on old.counts new.counts [] Finished new.told (refl, refl, inl refl))

-- nothing is kept for a call, as far as the keeper tells
abbrev IsFree : ℕ → ℕ → Option DeskHeld → Type 0
IsFree caller number desk = IfSome desk (λ held. kept_text caller number held.calls ≡ None)

free_taken : (caller number : ℕ) (desk : Option DeskHeld) → IsFree caller number desk → IsFree caller number (with_ticket desk)
free_taken caller number None free = tt
free_taken caller number (Some held) free = free

free_after : (caller number : ℕ) (old new : Option DeskHeld) (answer : Result ℕ KeepErr) → Stands old new (Ticket answer) → IsFree caller number old → IsFree caller number new
free_after caller number old new (Ok ticket) is free = subst (IsFree caller number) (sym is) (free_taken caller number old free)
free_after caller number old new (Err unkept.Failed) (inl is) free = subst (IsFree caller number) (sym is) free
free_after caller number old new (Err unkept.Failed) (inr is) free = subst (IsFree caller number) (sym is) (free_taken caller number old free)
free_after caller number old new (Err unkept.Memory) is free = subst (IsFree caller number) (sym is) free

free_run : (caller number : ℕ) (answers : List (Result ℕ KeepErr)) (old new : Option DeskHeld) → IsRun old (map (λ (answer : Result ℕ KeepErr). Ticket answer) answers) new → IsFree caller number old → IsFree caller number new
free_run caller number [] old new is free = subst (IsFree caller number) (sym is) free
free_run caller number (answer ∷ answers) old new (mid, gives, stands, run) free = free_run caller number answers mid new run (free_after caller number old mid answer stands free)

pub still_free : (caller number : ℕ) (old new : Option DeskHeld) → AsksTickets old new → IfSome old (λ held. kept_text caller number held.calls ≡ None) → IfSome new (λ held. kept_text caller number held.calls ≡ None)
still_free caller number old new (answers, run) free = free_run caller number answers old new run free

-- ---- a query is answered

-- a put that failed could have been want of memory
put_short : (rose : Who → Type 0) (told : Told) (script : Script) (out : List ℕ) (now : Told) → Goes rose told script out PutFailed now → (front : List ℕ) × Goes rose told script front OutOfMemory now
put_short rose told Finish out now (none, same, ends) = ([], (refl, same, inr refl))
put_short rose told (Refuse refused line) out now (none, same, ends) = ([], (refl, same, inr refl))
put_short rose told (Say text rest) out now (inl (none, same, ends)) = ([], inl (refl, same, refl))
put_short rose told (Say text rest) out now (inr (inl (k, put, same, rise, ends))) = ([], inl (refl, same, refl))
put_short rose told (Say text rest) out now (inr (inr (more, put, later))) = let r = put_short rose told rest more now later in (text ++ r.0, inr (inr (r.0, refl, r.1)))
put_short rose told (Ask question next) out now (inl (none, same, ends)) = ([], inl (refl, same, refl))
put_short rose told (Ask question next) out now (inr (inl (none, left, fails))) = let e : PutFailed ≡ fault fails.who = fails.ends in cc
put_short rose told (Ask question next) out now (inr (inr (reply, gives, later))) = let r = put_short rose (questions.after told question reply) (next reply) out now later in (r.0, inr (inr (reply, gives, r.1)))

module _ (old new : WorldModel) (script : (List ℕ → Script) → Script) (next : List ℕ → Course) (only : OnlyDesk old.told new.told) where
  -- it has a body
  pub said_on : (body : List ℕ) → Leads old new (script (λ said. Refuse status.Done said)) (Refuse status.Done body) → On old new (Answer script next) (next body)
  said_on body l = λ last end c. record {
    comes = inr (inr (body, new.told, (l.front ++ [], l.on old.counts last.counts [] (Refused status.Done body) new.told (refl, refl, inl refl)), later_on old new last (next body) end l.later c));
    only = only_both old.told new.told last.told only c.only;
    later = not_fallen old.counts new.counts last.counts l.later c.later;
  }

  -- it has one, but memory ran out
  pub said_short : Leads old new (script (λ said. Finish)) Finish → (end : End) → end ≡ NoMemory → Came old new (Answer script next) end
  said_short l end is = record {
    comes = inl ((l.front ++ [], l.on old.counts new.counts [] OutOfMemory new.told (refl, refl, inr refl)), is);
    only = only;
    later = l.later;
  }

  -- it stopped
  pub stopped : (by : Stop) → Along old new (script (λ said. Finish)) (stop_of by) → (end : End) → StopMakes (stop_of by) end → Came old new (Answer script next) end
  stopped (stop.Refused refused line) w end made = record { comes = inr (inl (refused, _, (w.out, w.goes), made)); only = only; later = w.later }
  stopped stop.Sink w end is = record { comes = inl (put_short (RoseIn old.counts new.counts) old.told (script (λ said. Finish)) w.out new.told w.goes, is); only = only; later = w.later }
  stopped stop.Memory w end is = record { comes = inl ((w.out, w.goes), is); only = only; later = w.later }

-- a text that says no query
pub unsaid : (w : WorldModel) (text : List ℕ) (next : Query → Course) (by : Stop) (end : End) → IsUnsaid text by → StopMakes (stop_of by) end → Came w w (Read text next) end
unsaid w text next by end (inl (place, kind, fault, inl is)) made =
    stays w (Read text next) end (inr (inl (place, kind, refl, fault, subst (λ (s : Stopped). StopMakes s end) is made)))
unsaid w text next by end (inl (place, kind, fault, inr short)) made = stays w (Read text next) end (inl (refl, subst (λ (s : Stopped). StopMakes s end) short made))
unsaid w text next by end (inr short) made = stays w (Read text next) end (inl (refl, subst (λ (s : Stopped). StopMakes s end) short made))
