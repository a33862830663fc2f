-- What a connection asks of the desk's keeper is a run of it.
use Rattle.std.proofs.Common.{◌≡◌, ◌⊎◌, ℕ, List, [], ◌∷◌, ◌++◌, Option, None, Some, Result, Ok, Err, refl, sym, subst, ap, inl, inr}
use Rattle.std.specs.Prelude.{IfSome, map, ⊤}
use Rattle.pdn_base.specs.declared.memory.Memory.{Memory}
use Rattle.pdn_base.specs.declared.status.Status.TheVariants as status
use Rattle.pdn_base.specs.declared.status.Who.{Who}
use Rattle.pdn_keeper.specs.declared.site_keeper.KeepErr.TheVariants.{Failed}
use Rattle.pdn_schema.specs.Models.{SchemaModel}
use Rattle.pdn_http.specs.declared.call.Call.{Call}
use Rattle.pdn_desk_keeper.specs.Desks.{DeskHeld, KeptText, Step, Find, Keep, Count, Ticket, IsAnswer, Stands, with_call, kept_call}
use Rattle.pdn_desk_keeper.specs.Runs.{IsRun}
use Rattle.pdn_query.specs.DeskCalls.{AsksTickets}
use Rattle.pdn_query.specs.Questions.{Told}
use Rattle.pdn_query.specs.World.{WorldModel, RoseIn}
use Rattle.pdn_desk.specs.Calls.{with_kept}
use Rattle.pdn_desk.specs.Connections.{LinkModel, Responds, Serves}
use Rattle.pdn_desk.specs.Courses.{Course}
use Rattle.pdn_desk.specs.Courses as courses
use Rattle.pdn_desk.specs.Laws.{AsksDesk}
use Rattle.pdn_desk.specs.Ways.{End, Comes}
use Rattle.pdn_desk.specs.declared.desk_end.DeskEnd.{DeskEnd}
use Rattle.pdn_desk.specs.declared.desk_end.DeskEnd.TheVariants as ends
use Rattle.pdn_desk.proofs.Queries.{goes_asked}

joined : (old mid new : Option DeskHeld) (first second : List Step) → IsRun old first mid → IsRun mid second new → IsRun old (first ++ second) new
joined old mid new [] second one two = subst (λ (held : Option DeskHeld). IsRun held second new) one two
joined old mid new (step ∷ first) second (between, answer, stands, rest) two = (between, answer, stands, joined between mid new first second rest two)

asks_both : (old mid new : Option DeskHeld) → AsksDesk old mid → AsksDesk mid new → AsksDesk old new
asks_both old mid new (first, one) (second, two) = (first ++ second, joined old mid new first second one two)

asks_none : (old new : Told) → new ≡ old → AsksDesk old.desk new.desk
asks_none old new e = ([], ap (λ (t : Told). t.desk) e)

tickets : (old new : Option DeskHeld) → AsksTickets old new → AsksDesk old new
tickets old new (answers, run) = (map Ticket answers, run)

-- one call, and then others
module _ (old new : Option DeskHeld) (step : Step) (answer : IsAnswer old step) where
  then_asks : Stands old old step → AsksDesk old new → AsksDesk old new
  then_asks stands (steps, run) = (step ∷ steps, (old, answer, stands, run))

  asks_one : Stands old new step → AsksDesk old new
  asks_one stands = (step ∷ [], (new, answer, stands, refl))

-- a keeper that fails to keep
keep_failed : (told now : Told) (call : Call) (kept : KeptText) → (now ≡ told) ⊎ (now ≡ with_kept told call kept) → AsksDesk told.desk now.desk
keep_failed told now call kept (inl e) = asks_one told.desk now.desk (Keep call.caller call.number kept (Err Failed)) tt (inl (ap (λ (t : Told). t.desk) e))
keep_failed told now call kept (inr e) = asks_one told.desk now.desk (Keep call.caller call.number kept (Err Failed)) tt (inr (ap (λ (t : Told). t.desk) e))

pub comes_asks : (rose : Who → Type 0) (told : Told) (course : Course) (end : End) (now : Told) → Comes rose told course end now → AsksDesk told.desk now.desk
comes_asks rose told (courses.Reply status body) end now (same, made) = asks_none told now same
comes_asks rose told (courses.Find call next) end now (inl (same, is)) = asks_none told now same
comes_asks rose told (courses.Find call next) end now (inr (inl (same, rise, made))) = asks_none told now same
comes_asks rose told (courses.Find call next) end now (inr (inr (found, answer, c))) =
    then_asks told.desk now.desk (Find call.caller call.number (Ok found)) answer refl (comes_asks rose told (next found) end now c)
comes_asks rose told (courses.Count caller next) end now (inl (same, is)) = asks_none told now same
comes_asks rose told (courses.Count caller next) end now (inr (inl (same, rise, made))) = asks_none told now same
comes_asks rose told (courses.Count caller next) end now (inr (inr (count, answer, c))) =
    then_asks told.desk now.desk (Count caller (Ok count)) answer refl (comes_asks rose told (next count) end now c)
comes_asks rose told (courses.Read text next) end now (inl (same, is)) = asks_none told now same
comes_asks rose told (courses.Read text next) end now (inr (inl (place, kind, same, fault, made))) = asks_none told now same
comes_asks rose told (courses.Read text next) end now (inr (inr (query, says, c))) = comes_asks rose told (next query) end now c
comes_asks rose told (courses.Answer script next) end now (inl ((out, w), is)) = tickets told.desk now.desk (goes_asked rose told _ out _ now w)
comes_asks rose told (courses.Answer script next) end now (inr (inl (refused, line, (out, w), made))) = tickets told.desk now.desk (goes_asked rose told _ out _ now w)
comes_asks rose told (courses.Answer script next) end now (inr (inr (body, mid, (out, w), c))) =
    asks_both told.desk mid.desk now.desk (tickets told.desk mid.desk (goes_asked rose told _ out _ mid w)) (comes_asks rose mid (next body) end now c)
comes_asks rose told (courses.Keep call kept) end now (inl (same, is)) = asks_none told now same
comes_asks rose told (courses.Keep call kept) end now (inr (inl (stands, rise, is))) = keep_failed told now call kept stands
comes_asks rose told (courses.Keep call kept) end now (inr (inr (more, is))) =
    asks_one told.desk now.desk (Keep call.caller call.number kept (Ok tt)) tt (ap (λ (t : Told). t.desk) more)

responds_asks : (s : SchemaModel) (link : LinkModel) (old new : WorldModel) (end : End) → Responds s link old new end → AsksDesk old.told.desk new.told.desk
responds_asks s link old new end (inl r) = comes_asks (RoseIn old.counts new.counts) old.told r.course end new.told r.came.comes
responds_asks s link old new end (inr (is, same)) = asks_none old.told new.told (ap (λ (w : WorldModel). w.told) same)

pub serves_asks : (s : SchemaModel) (link now : LinkModel) (old new : WorldModel) (result : Result DeskEnd Memory) → Serves s link now old new result → AsksDesk old.told.desk new.told.desk
serves_asks s link now old new (Ok ends.Silent) (come, sent, same) = asks_none old.told new.told (ap (λ (w : WorldModel). w.told) same)
serves_asks s link now old new (Ok ends.Unread) (rise, sent, same) = asks_none old.told new.told (ap (λ (w : WorldModel). w.told) same)
serves_asks s link now old new (Ok (ends.Replied status)) (bytes, r, sent) = responds_asks s link old new r.end r.responds
serves_asks s link now old new (Ok (ends.Lost status)) (bytes, r, sent, rise) = responds_asks s link old new r.end r.responds
serves_asks s link now old new (Err short) (r, sent) = responds_asks s link old new _ r
