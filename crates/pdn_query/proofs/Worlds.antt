-- What calls of the objects outside leave of the world.
use Rattle.std.proofs.Common.{◌≡◌, ◌≤◌, ◌^◌, ℕ, List, refl, ◌∙◌, ap, subst, None, Some, Option, Result, Ok, Err, inl, inr, ◌⊎◌}
use Rattle.std.specs.Prelude.{IfSome, IfOk, IsErrOf, MatchResult}
use Rattle.pdn_base.specs.declared.site.Site.{Site}
use Rattle.pdn_base.specs.declared.site.Site.TheVariants.{A, B}
use Rattle.pdn_base.specs.declared.status.Who.{Who}
use Rattle.pdn_base.specs.declared.status.Who.TheVariants.{Desk}
use Rattle.pdn_base.specs.declared.value.Value.{Value}
use Rattle.pdn_schema.specs.Models.{TableModel}
use Rattle.pdn_keeper.specs.Batches.{BatchHeld, batch_held, with_batch, IsAnswer, Stands}
use Rattle.pdn_keeper.specs.declared.site_keeper.Added.{Added}
use Rattle.pdn_keeper.specs.declared.site_keeper.Added.TheVariants as added
use Rattle.pdn_keeper.specs.declared.site_keeper.AddErr.{AddErr}
use Rattle.pdn_keeper.specs.declared.site_keeper.AddErr.TheVariants as unadded
use Rattle.pdn_keeper.specs.declared.site_keeper.KeepErr.{KeepErr}
use Rattle.pdn_keeper.specs.declared.site_keeper.KeepErr.TheVariants as unkept
use Rattle.pdn_desk_keeper.specs.Desks as desks
use Rattle.pdn_desk_keeper.specs.Desks.{DeskHeld, with_ticket}
use Rattle.pdn_query.specs.Questions.{Batch, Ticket, Told, AfterFault, who_of, kept_at, with_kept, with_new, with_desk, with_taken}
use Rattle.pdn_query.specs.World.{WorldModel, RoseIn, Beside, Replied, answer_of, NotAdded, NotGiven}

same_kept : (told : Told) (site : Site) (new : Option (List BatchHeld)) → new ≡ kept_at told site → with_kept told site new ≡ told
same_kept told A new e = ap (λ (held : Option (List BatchHeld)). with_kept told A held) e
same_kept told B new e = ap (λ (held : Option (List BatchHeld)). with_kept told B held) e

some_map : {X : Type 0} {P Q : X → Type 0} (o : Option X) → ((x : X) → P x → Q x) → IfSome o P → IfSome o Q
some_map None f h = h
some_map (Some x) f h = f x h

-- a site was given a batch
module _ (w now : WorldModel) (site : Site) (t : TableModel) (number : ℕ) (rows : List (List Value)) (new : Option (List BatchHeld)) (left : now.told ≡ with_kept w.told site new) (beside : Beside w now) where
  told_same : new ≡ kept_at w.told site → now.told ≡ w.told
  told_same e = left ∙ same_kept w.told site new e

  told_new : new ≡ with_batch (batch_held t.name number rows) (kept_at w.told site) → now.told ≡ with_new w.told site (batch_held t.name number rows)
  told_new e = left ∙ ap (λ (held : Option (List BatchHeld)). with_kept w.told site held) e

  left_by : (new ≡ kept_at w.told site) ⊎ (new ≡ with_batch (batch_held t.name number rows) (kept_at w.told site)) → AfterFault w.told (Batch site t number rows) now.told
  left_by (inl e) = inl (told_same e)
  left_by (inr e) = inr (told_new e)

  pub added_back : (r : Result Added AddErr) → IfSome (kept_at w.told site) (λ held. IsAnswer t held number rows r) → Stands (kept_at w.told site) new (batch_held t.name number rows) r →
      (IsErrOf r unadded.Failed → RoseIn w.counts now.counts (who_of site)) → MatchResult r (λ how. Replied w now (Batch site t number rows) (answer_of how)) (NotAdded w now site t number rows)
  added_back (Ok added.New) is stands up = record { gives = is; left = told_new stands; beside = beside }
  added_back (Ok added.Again) is stands up = record { gives = is; left = told_same stands; beside = beside }
  added_back (Err (unadded.Differs at kept)) is stands up = record { gives = some_map (kept_at w.told site) (λ held a. (kept, a)) is; left = told_same stands; beside = beside }
  added_back (Err (unadded.OverRows kept)) is stands up = record { gives = some_map (kept_at w.told site) (λ held a. (kept, a)) is; left = told_same stands; beside = beside }
  added_back (Err (unadded.OverPer column v kept)) is stands up = record { gives = some_map (kept_at w.told site) (λ held a. (v, kept, a)) is; left = told_same stands; beside = beside }
  added_back (Err unadded.Failed) is stands up = record {
    rise = λ who asked. subst (λ (o : Option Who). IfSome o (RoseIn w.counts now.counts)) asked (up refl);
    left = left_by stands;
    beside = beside;
  }
  added_back (Err unadded.Memory) is stands up = record { left = told_same stands; beside = beside }

-- the desk was asked for a ticket
module _ (w now : WorldModel) (new : Option DeskHeld) (left : now.told ≡ with_desk w.told new) (beside : Beside w now) where
  same_desk : new ≡ w.told.desk → now.told ≡ w.told
  same_desk e = left ∙ ap (λ (held : Option DeskHeld). with_desk w.told held) e

  taken : new ≡ with_ticket w.told.desk → now.told ≡ with_taken w.told
  taken e = left ∙ ap (λ (held : Option DeskHeld). with_desk w.told held) e

  left_taken : (new ≡ w.told.desk) ⊎ (new ≡ with_ticket w.told.desk) → AfterFault w.told Ticket now.told
  left_taken (inl e) = inl (same_desk e)
  left_taken (inr e) = inr (taken e)

  pub given_back : (r : Result ℕ KeepErr) → IfOk r (λ ticket. ticket ≤ 2 ^ 40) → desks.IsAnswer w.told.desk (desks.Ticket r) → desks.Stands w.told.desk new (desks.Ticket r) →
      (IsErrOf r unkept.Failed → RoseIn w.counts now.counts Desk) → MatchResult r (λ ticket. Replied w now Ticket ticket) (NotGiven w now)
  given_back (Ok ticket) bound is stands up = record { gives = (bound, some_map w.told.desk (λ held e. e) is); left = taken stands; beside = beside }
  given_back (Err unkept.Failed) bound is stands up = record {
    rise = λ who asked. subst (λ (o : Option Who). IfSome o (RoseIn w.counts now.counts)) asked (up refl);
    left = left_taken stands;
    beside = beside;
  }
  given_back (Err unkept.Memory) bound is stands up = record { left = same_desk stands; beside = beside }
