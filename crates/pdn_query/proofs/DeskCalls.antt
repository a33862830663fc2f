-- What a command asks of the desk's keeper.
use Rattle.std.proofs.Common.{◌≡◌, ℕ, List, [], ◌∷◌, Option, None, Some, Ok, Err, inl, inr, refl, ap, subst, ◌∙◌}
use Rattle.std.specs.Prelude.{IfSome, ⊤}
use Rattle.pdn_base.specs.declared.site.Site.{Site}
use Rattle.pdn_base.specs.declared.site.Site.TheVariants.{A, B}
use Rattle.pdn_base.specs.declared.status.Status.{Status}
use Rattle.pdn_base.specs.declared.status.Who.{Who}
use Rattle.pdn_keeper.specs.Batches.{BatchHeld}
use Rattle.pdn_keeper.specs.declared.site_keeper.KeepErr.TheVariants.{Failed}
use Rattle.pdn_desk_keeper.specs.Desks.{DeskHeld}
use Rattle.pdn_query.specs.Questions.{Question, File, Kept, Batch, Ticket, SchemaIn, QueriesIn, Bound, RowsIn, Valid, Agreeing, Reply, Told, Answer, New, Again, Differs, OverRows, OverPer, Gives, after, after_batch, AfterFault, with_new}
use Rattle.pdn_query.specs.Script.{Script, Finish, Refuse, Say, Ask}
use Rattle.pdn_query.specs.DeskCalls.{AsksTickets}
use Rattle.pdn_query.specs.Walk.{Goes, End, Follows}

-- nothing was asked
none_asked : (old new : Option DeskHeld) → new ≡ old → AsksTickets old new
none_asked old new e = ([], e)

if_failed : (desk : Option DeskHeld) → IfSome desk (λ held. ⊤)
if_failed None = tt
if_failed (Some held) = tt

with_new_desk : (told : Told) (site : Site) (batch : BatchHeld) → (with_new told site batch).desk ≡ told.desk
with_new_desk told A batch = refl
with_new_desk told B batch = refl

after_batch_desk : (told : Told) (site : Site) (batch : BatchHeld) (answer : Answer) → (after_batch told site batch answer).desk ≡ told.desk
after_batch_desk told site batch New = with_new_desk told site batch
after_batch_desk told site batch Again = refl
after_batch_desk told site batch (Differs at) = refl
after_batch_desk told site batch OverRows = refl
after_batch_desk told site batch (OverPer column) = refl

-- the object that was asked failed
fault_asked : (told now : Told) (question : Question) → AfterFault told question now → AsksTickets told.desk now.desk
fault_asked told now (File name) e = none_asked told.desk now.desk (ap (λ (t : Told). t.desk) e)
fault_asked told now (Kept site name) e = none_asked told.desk now.desk (ap (λ (t : Told). t.desk) e)
fault_asked told now (Batch site t number rows) (inl e) = none_asked told.desk now.desk (ap (λ (t : Told). t.desk) e)
fault_asked told now (Batch site t number rows) (inr e) = none_asked told.desk now.desk (ap (λ (t : Told). t.desk) e ∙ with_new_desk told site _)
fault_asked told now Ticket (inl e) = (Err Failed ∷ [], (now.desk, if_failed told.desk, inl (ap (λ (t : Told). t.desk) e), refl))
fault_asked told now Ticket (inr e) = (Err Failed ∷ [], (now.desk, if_failed told.desk, inr (ap (λ (t : Told). t.desk) e), refl))
fault_asked told now (SchemaIn bytes) e = none_asked told.desk now.desk (ap (λ (t : Told). t.desk) e)
fault_asked told now (QueriesIn bytes) e = none_asked told.desk now.desk (ap (λ (t : Told). t.desk) e)
fault_asked told now (Bound s query) e = none_asked told.desk now.desk (ap (λ (t : Told). t.desk) e)
fault_asked told now (RowsIn t bytes) e = none_asked told.desk now.desk (ap (λ (t : Told). t.desk) e)
fault_asked told now (Valid t rows) e = none_asked told.desk now.desk (ap (λ (t : Told). t.desk) e)
fault_asked told now (Agreeing s first second) e = none_asked told.desk now.desk (ap (λ (t : Told). t.desk) e)

-- it gave a reply
reply_asked : (told : Told) (now : Option DeskHeld) (question : Question) (reply : Reply question) → Gives told question reply → AsksTickets (after told question reply).desk now → AsksTickets told.desk now
reply_asked told now (File name) reply gives later = later
reply_asked told now (Kept site name) reply gives later = later
reply_asked told now (Batch site t number rows) reply gives later = subst (λ (desk : Option DeskHeld). AsksTickets desk now) (after_batch_desk told site _ reply) later
reply_asked told now Ticket reply gives (answers, run) = (Ok reply ∷ answers, ((after told Ticket reply).desk, gives.1, refl, run))
reply_asked told now (SchemaIn bytes) reply gives later = later
reply_asked told now (QueriesIn bytes) reply gives later = later
reply_asked told now (Bound s query) reply gives later = later
reply_asked told now (RowsIn t bytes) reply gives later = later
reply_asked told now (Valid t rows) reply gives later = later
reply_asked told now (Agreeing s first second) reply gives later = later

goes_asked : (rose : Who → Type 0) (told : Told) (script : Script) (out : List ℕ) (end : End) (now : Told) → Goes rose told script out end now → AsksTickets told.desk now.desk
goes_asked rose told Finish out end now (none, same, ends) = none_asked told.desk now.desk (ap (λ (t : Told). t.desk) same)
goes_asked rose told (Refuse refused line) out end now (none, same, ends) = none_asked told.desk now.desk (ap (λ (t : Told). t.desk) same)
goes_asked rose told (Say text rest) out end now (inl (none, same, ends)) = none_asked told.desk now.desk (ap (λ (t : Told). t.desk) same)
goes_asked rose told (Say text rest) out end now (inr (inl (k, put, same, rise, ends))) = none_asked told.desk now.desk (ap (λ (t : Told). t.desk) same)
goes_asked rose told (Say text rest) out end now (inr (inr (more, put, later))) = goes_asked rose told rest more end now later
goes_asked rose told (Ask question next) out end now (inl (none, same, ends)) = none_asked told.desk now.desk (ap (λ (t : Told). t.desk) same)
goes_asked rose told (Ask question next) out end now (inr (inl (none, fault, fails))) = fault_asked told now question fault
goes_asked rose told (Ask question next) out end now (inr (inr (reply, gives, later))) =
    reply_asked told now.desk question reply gives (goes_asked rose (after told question reply) (next reply) out end now later)

pub follows_asked : (rose : Who → Type 0) (told : Told) (script : Script) (out : List ℕ) (result : Status) (now : Told) → Follows rose told script out result now → AsksTickets told.desk now.desk
follows_asked rose told script out result now f = goes_asked rose told script f.front f.end now f.goes
