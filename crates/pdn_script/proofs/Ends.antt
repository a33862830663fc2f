-- What follows from the answer along a script, for every script.
use Rattle.std.proofs.Common.{◌≡◌, ℕ, ◌++◌, List, refl, sym, ◌∙◌, inl, inr, ◌⊎◌, append-nil}
use Rattle.pdn_base.specs.declared.status.Status.{Status}
use Rattle.pdn_base.specs.declared.status.Status.TheVariants as status
use Rattle.pdn_base.specs.declared.status.Who.{Who}
use Rattle.pdn_base.specs.declared.status.Who.TheVariants.{Sink}
use Rattle.pdn_script.specs.Rules.{Rules}
use Rattle.pdn_script.specs.Scripts.{Script, Finish, Say, Refuse, Ask}
use Rattle.pdn_script.specs.Ways.{Goes, End, Finished, NoMemory, PutFailed, Refused, Fails, Closes, Follows, Clears, Refusals, Reached, HasReason, Texts, IsPlain}

module _ {Question : Type 0} {Told : Type 0} (rules : Rules Question Told) where
  -- with nothing to refuse and no fault a walk goes to its end
  goes_through : (rose : Who → Type 0) → ((who : Who) → rose who → ⊥) → (told : Told) (script : Script Question rules.Reply) (out : List ℕ) (end : End) (now : Told) → Clears rules told script → Goes rules rose told script out end now →
      (end ≡ Finished) ⊎ (end ≡ NoMemory)
  goes_through rose calm told Finish out end now clear w = w.2
  goes_through rose calm told (Refuse status line) out end now clear w = absurd clear
  goes_through rose calm told (Say text rest) out end now clear (inl w) = inr w.2
  goes_through rose calm told (Say text rest) out end now clear (inr (inl w)) = absurd (calm Sink w.3)
  goes_through rose calm told (Say text rest) out end now clear (inr (inr w)) = goes_through rose calm told rest w.0 end now clear w.2
  goes_through rose calm told (Ask question next) out end now clear (inl w) = inr w.2
  goes_through rose calm told (Ask question next) out end now clear (inr (inl w)) = let f : Fails rules rose question end = w.2 in absurd (calm f.who f.rise)
  goes_through rose calm told (Ask question next) out end now clear (inr (inr w)) = goes_through rose calm (rules.after told question w.0) (next w.0) out end now (clear w.0 w.1) w.2

  closes_done : (rose : Who → Type 0) (end : End) (out : List ℕ) (result : Status) → (end ≡ Finished) ⊎ (end ≡ NoMemory) → Closes rose end out result →
      (result ≡ status.Done) ⊎ (result ≡ status.Memory)
  closes_done rose Finished out result e c = inl c.1
  closes_done rose NoMemory out result e c = inr c.1
  closes_done rose PutFailed out result (inl e) c = cc
  closes_done rose PutFailed out result (inr e) c = cc
  closes_done rose (Refused refused line) out result (inl e) c = cc
  closes_done rose (Refused refused line) out result (inr e) c = cc

  pub completes : (rose : Who → Type 0) (told : Told) (script : Script Question rules.Reply) (out : List ℕ) (result : Status) (now : Told) → Follows rules rose told script out result now →
      Clears rules told script → ((who : Who) → rose who → ⊥) → (result ≡ status.Done) ⊎ (result ≡ status.Memory)
  completes rose told script out result now a clear calm = closes_done rose a.end a.last result (goes_through rose calm told script a.front a.end now clear a.goes) a.closes

  -- what holds of each refusal, and of a fault where a count rose, holds of the status
  module _ (rose : Who → Type 0) (P : Status → Type 0) (faults : (who : Who) → rose who → P (status.Unavailable who)) where
    abbrev EndHas : End → Type 0
    EndHas Finished = Unit {0}
    EndHas NoMemory = Unit {0}
    EndHas PutFailed = P (status.Unavailable Sink)
    EndHas (Refused refused line) = P refused

    pub end_has : (told : Told) (script : Script Question rules.Reply) (out : List ℕ) (end : End) (now : Told) → Refusals rules told P script → Goes rules rose told script out end now → EndHas end
    end_has told Finish out end now r (none, stays, inl e) = rw (e) tt
    end_has told Finish out end now r (none, stays, inr e) = rw (e) tt
    end_has told (Refuse refused line) out end now r (none, stays, inl e) = rw (e) r
    end_has told (Refuse refused line) out end now r (none, stays, inr e) = rw (e) tt
    end_has told (Say text rest) out end now r (inl w) = rw (w.2) tt
    end_has told (Say text rest) out end now r (inr (inl w)) = rw (w.4) (faults Sink w.3)
    end_has told (Say text rest) out end now r (inr (inr w)) = end_has told rest w.0 end now r w.2
    end_has told (Ask question next) out end now r (inl w) = rw (w.2) tt
    end_has told (Ask question next) out end now r (inr (inl w)) = let f : Fails rules rose question end = w.2 in rw (f.ends) (faults f.who f.rise)
    end_has told (Ask question next) out end now r (inr (inr w)) = end_has (rules.after told question w.0) (next w.0) out end now (r w.0 w.1) w.2

    closed_has : (end : End) (out : List ℕ) (result : Status) → P status.Done → P status.Memory → EndHas end → Closes rose end out result → P result
    closed_has Finished out result done memory h c = rw (c.1) done
    closed_has NoMemory out result done memory h c = rw (c.1) memory
    closed_has PutFailed out result done memory h c = rw (c.1) h
    closed_has (Refused refused line) out result done memory h c = rw (c.0) h

    pub status_has : (told : Told) (script : Script Question rules.Reply) (out : List ℕ) (result : Status) (now : Told) → P status.Done → P status.Memory → Refusals rules told P script →
        Follows rules rose told script out result now → P result
    status_has told script out result now done memory r a = closed_has a.end a.last result done memory (end_has told script a.front a.end now r a.goes) a.closes

  -- what holds of each refusal that is reached holds of each refusal
  each_reached : (P : Status → Type 0) (told : Told) (script : Script Question rules.Reply) → ((refused : Status) → Reached rules told script refused → P refused) → Refusals rules told P script
  each_reached P told Finish h = tt
  each_reached P told (Refuse refused line) h = h refused refl
  each_reached P told (Say text rest) h = each_reached P told rest h
  each_reached P told (Ask question next) h = λ reply gives. each_reached P (rules.after told question reply) (next reply) (λ refused at. h refused (reply, gives, at))

  -- each status has its reason, on every script
  pub has_reason : (rose : Who → Type 0) (told : Told) (script : Script Question rules.Reply) (out : List ℕ) (result : Status) (now : Told) → Follows rules rose told script out result now → HasReason rules rose told script result
  has_reason rose told script out result now a = status_has rose (HasReason rules rose told script) (λ who up. inr (inr (inl (who, refl, up)))) told script out result now
      (inl refl) (inr (inl refl)) (each_reached (HasReason rules rose told script) told script (λ refused at. inr (inr (inr at)))) a

  -- the whole text, where a walk ends without a refusal
  finished_text : (rose : Who → Type 0) (told : Told) (Q : List ℕ → Told → Type 0) (script : Script Question rules.Reply) (out : List ℕ) (end : End) (now : Told) → end ≡ Finished →
      Texts rules told Q script → Goes rules rose told script out end now → Q out now
  finished_text rose told Q Finish out end now e t w = rw (w.0, w.1) t
  finished_text rose told Q (Refuse refused line) out end now e t (none, stays, inl is) = cc
  finished_text rose told Q (Refuse refused line) out end now e t (none, stays, inr is) = cc
  finished_text rose told Q (Say text rest) out end now e t (inl (none, stays, is)) = cc
  finished_text rose told Q (Say text rest) out end now e t (inr (inl (k, front, stays, up, is))) = cc
  finished_text rose told Q (Say text rest) out end now e t (inr (inr w)) = rw (w.1) (finished_text rose told (λ more kept. Q (text ++ more) kept) rest w.0 end now e t w.2)
  finished_text rose told Q (Ask question next) out end now e t (inl (none, stays, is)) = cc
  finished_text rose told Q (Ask question next) out end now e t (inr (inl (none, stays, fails))) = let is = fails.ends in cc
  finished_text rose told Q (Ask question next) out end now e t (inr (inr w)) = finished_text rose (rules.after told question w.0) Q (next w.0) out end now e (t w.0 w.1) w.2

  -- ---- what Done and Memory come with, where no refusal is one of them

  module _ (rose : Who → Type 0) (told : Told) where
    plain_end : (script : Script Question rules.Reply) (out : List ℕ) (refused : Status) (line : List ℕ) (now : Told) → Refusals rules told IsPlain script → Goes rules rose told script out (Refused refused line) now → IsPlain refused
    plain_end script out refused line now r w = end_has rose IsPlain (λ who up. record { not_done = λ e. cc; not_memory = λ e. cc }) told script out (Refused refused line) now r w

    done_end : (Q : List ℕ → Told → Type 0) (script : Script Question rules.Reply) (front last out : List ℕ) (end : End) (result : Status) (now : Told) → out ≡ front ++ last → result ≡ status.Done →
        Refusals rules told IsPlain script → Texts rules told Q script → Goes rules rose told script front end now → Closes rose end last result → Q out now
    done_end Q script front last out Finished result now whole done r t w c = rw (whole, c.0, append-nil front) (finished_text rose told Q script front Finished now refl t w)
    done_end Q script front last out NoMemory result now whole done r t w (none, is) = cc
    done_end Q script front last out PutFailed result now whole done r t w (none, is) = cc
    done_end Q script front last out (Refused refused line) result now whole done r t w (is, put) = let p = plain_end script front refused line now r w in absurd (p.not_done (sym is ∙ done))

    pub done_text : (Q : List ℕ → Told → Type 0) (script : Script Question rules.Reply) (out : List ℕ) (result : Status) (now : Told) → Refusals rules told IsPlain script → Texts rules told Q script →
        Follows rules rose told script out result now → result ≡ status.Done → Q out now
    done_text Q script out result now r t a done = done_end Q script a.front a.last out a.end result now a.whole done r t a.goes a.closes

    -- a refusal's status isn't Memory
    pub refused_plain : (script : Script Question rules.Reply) (out : List ℕ) (refused : Status) (line : List ℕ) (now : Told) → Refusals rules told IsPlain script → Goes rules rose told script out (Refused refused line) now →
        refused ≡ status.Memory → ⊥
    refused_plain script out refused line now r w = (plain_end script out refused line now r w).not_memory

  -- where the status is Memory, memory ran out on the way
  pub memory_end : (rose R : Who → Type 0) (told : Told) (script : Script Question rules.Reply) (front last : List ℕ) (end : End) (result : Status) (now : Told) →
      Refusals rules told IsPlain script → Goes rules rose told script front end now → Closes R end last result → result ≡ status.Memory → end ≡ NoMemory
  memory_end rose R told script front last Finished result now r w (none, is) e = cc
  memory_end rose R told script front last NoMemory result now r w c e = refl
  memory_end rose R told script front last PutFailed result now r w (none, is) e = cc
  memory_end rose R told script front last (Refused refused line) result now r w (is, put) e = absurd (refused_plain rose told script front refused line now r w (sym is ∙ e))
