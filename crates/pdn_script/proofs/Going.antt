-- Going along a script.
use Rattle.std.proofs.Common.{◌≡◌, ℕ, ◌++◌, List, [], refl, sym, None, Some, Option, Result, Ok, Err, OnOk, OnErr, IsErr, inl, inr, ◌⊎◌, take, append-nil, append_assoc}
use Rattle.std.specs.Io.KnownBytes.{Appends}
use Rattle.pdn_base.specs.Outside.{AppendsFront}
use Rattle.pdn_base.specs.Texts.{refusal}
use Rattle.pdn_base.specs.declared.status.Status.{Status}
use Rattle.pdn_base.specs.declared.status.Status.TheVariants as status
use Rattle.pdn_base.specs.declared.status.Who.{Who}
use Rattle.pdn_base.specs.declared.status.Who.TheVariants.{Sink}
use Rattle.pdn_script.specs.declared.stop.Stop.{Stop}
use Rattle.pdn_script.specs.Rules.{Rules}
use Rattle.pdn_script.specs.Scripts.{Script, Finish, Say, Refuse, Ask}
use Rattle.pdn_script.specs.Stops.{IsRefusal, stop_of}
use Rattle.pdn_script.specs.Ways.{Goes, End, NoMemory, Wrote, Closes, Follows, Fails, Finished, PutFailed, Refused}

-- ---- what is put

-- nothing is put
pub appends_nothing : (written : Option (List ℕ)) → Appends written written []
appends_nothing None = tt
appends_nothing (Some bytes) = sym (append-nil bytes)

pub appends_both : (written after last : Option (List ℕ)) (xs ys : List ℕ) → Appends written after xs → Appends after last ys → Appends written last (xs ++ ys)
appends_both None after last xs ys a b = tt
appends_both (Some bytes) None last xs ys a b = absurd a
appends_both (Some bytes) (Some more) None xs ys a b = absurd b
appends_both (Some bytes) (Some more) (Some all) xs ys a b = rw (b, a) (append_assoc bytes xs ys)

-- what a put did to a line
pub piece_of : {T E : Type 0} (r : Result T E) (after last : Option (List ℕ)) (line : List ℕ) (rise : Type 0) →
    OnOk r (Appends after last line) → OnErr r (AppendsFront after last line) → (IsErr r → rise) →
    (piece : List ℕ) × Appends after last piece × ((piece ≡ line) ⊎ (rise × (k : ℕ) × (piece ≡ take k line)))
piece_of (Ok x) after last line rise ok front up = (line, ok, inl refl)
piece_of (Err e) after last line rise ok front up = (take front.0 line, front.1, inr (up refl, front.0, refl))

module _ {Question : Type 0} {Told : Type 0} (rules : Rules Question Told) where
  module _ (rose : Who → Type 0) where
    -- memory may run out before the first put
    pub out_of_memory : (told : Told) (script : Script Question rules.Reply) → Goes rules rose told script [] NoMemory told
    out_of_memory told Finish = (refl, refl, inr refl)
    out_of_memory told (Refuse status line) = (refl, refl, inr refl)
    out_of_memory told (Say text rest) = inl (refl, refl, refl)
    out_of_memory told (Ask question next) = inl (refl, refl, refl)

    pub short_of : (told : Told) (script : Script Question rules.Reply) (stop : Stop) → stop_of stop ≡ NoMemory → Goes rules rose told script [] (stop_of stop) told
    short_of told script stop short = rw (short) (out_of_memory told script)

    pub refused_by : (told : Told) (table column : List ℕ) (status : Status) (line : List ℕ) (stop : Stop) → IsRefusal table column status stop →
        line ≡ refusal table column status → Goes rules rose told (Refuse status line) [] (stop_of stop) told
    refused_by told table column status line stop (inl is) e = rw (is, e) (refl, refl, inl refl)
    refused_by told table column status line stop (inr short) e = rw (short) (refl, refl, inr refl)

    -- a reply goes on
    pub replied : (told : Told) (question : Question) (next : rules.Reply question → Script Question rules.Reply) (reply : rules.Reply question) (out : List ℕ) (end : End) (now : Told) →
        rules.Gives told question reply → Goes rules rose (rules.after told question reply) (next reply) out end now → Goes rules rose told (Ask question next) out end now
    replied told question next reply out end now gives w = inr (inr (reply, gives, w))

    -- the object that is asked failed
    pub failed_at : (told : Told) (question : Question) (next : rules.Reply question → Script Question rules.Reply) (who : Who) (stop : Stop) → rules.asked_of question ≡ Some who → rose who →
        rules.AfterFault told question told → IsRefusal [] [] (status.Unavailable who) stop → Goes rules rose told (Ask question next) [] (stop_of stop) told
    failed_at told question next who stop asked rise stays (inl is) = inr (inl (refl, stays, record { who = who; asked = asked; rise = rise; ends = is }))
    failed_at told question next who stop asked rise stays (inr short) = rw (short) (inl (refl, refl, refl))

  fails_within : (P Q : Who → Type 0) (question : Question) (end : End) → ((who : Who) → P who → Q who) → Fails rules P question end → Fails rules Q question end
  fails_within P Q question end up f = record { who = f.who; asked = f.asked; rise = up f.who f.rise; ends = f.ends }

  pub goes_within : (P Q : Who → Type 0) → ((who : Who) → P who → Q who) → (told : Told) (script : Script Question rules.Reply) (out : List ℕ) (end : End) (now : Told) → Goes rules P told script out end now → Goes rules Q told script out end now
  goes_within P Q up told Finish out end now w = w
  goes_within P Q up told (Refuse status line) out end now w = w
  goes_within P Q up told (Say text rest) out end now (inl w) = inl w
  goes_within P Q up told (Say text rest) out end now (inr (inl w)) = inr (inl (w.0, w.1, w.2, up Sink w.3, w.4))
  goes_within P Q up told (Say text rest) out end now (inr (inr w)) = inr (inr (w.0, w.1, goes_within P Q up told rest w.0 end now w.2))
  goes_within P Q up told (Ask question next) out end now (inl w) = inl w
  goes_within P Q up told (Ask question next) out end now (inr (inl w)) = inr (inl (w.0, w.1, fails_within P Q question end up w.2))
  goes_within P Q up told (Ask question next) out end now (inr (inr w)) = inr (inr (w.0, w.1, goes_within P Q up (rules.after told question w.0) (next w.0) out end now w.2))

  -- ---- the end

  closes_within : (P Q : Who → Type 0) → (P Sink → Q Sink) → (end : End) (out : List ℕ) (result : Status) → Closes P end out result → Closes Q end out result
  closes_within P Q up Finished out result c = c
  closes_within P Q up NoMemory out result c = c
  closes_within P Q up PutFailed out result c = c
  closes_within P Q up (Refused refused line) out result (is, inl whole) = (is, inl whole)
  closes_within P Q up (Refused refused line) out result (is, inr (rise, k, front)) = (is, inr (up rise, k, front))

  -- an end, and what was put behind it
  pub concluded : (P R rose : Who → Type 0) (told : Told) (script : Script Question rules.Reply) (written after last : Option (List ℕ)) (end : End) (result : Status) (now : Told) →
      ((who : Who) → P who → rose who) → (R Sink → rose Sink) → Wrote written after (λ text. Goes rules P told script text end now) → Wrote after last (λ text. Closes R end text result) →
      Wrote written last (λ text. Follows rules rose told script text result now)
  concluded P R rose told script written after last end result now up rise w c = (
    w.0 ++ c.0,
    appends_both written after last w.0 c.0 w.1 c.1,
    record { end = end; front = w.0; last = c.0; whole = refl; goes = goes_within P rose up told script w.0 end now w.2; closes = closes_within R rose rise end c.0 result c.2 },
  )
