-- What is due of a script, where no count rose; and that it is one thing.
use Rattle.std.proofs.Common.{◌≡◌, ℕ, ◌++◌, List, [], refl, sym, ap, ◌∙◌, Option, inl, inr, subst, ◌⊎◌, append_assoc}
use Rattle.pdn_base.specs.declared.status.Status.{Status}
use Rattle.pdn_base.specs.declared.status.Status.TheVariants as status
use Rattle.pdn_base.specs.declared.status.Who.{Who}
use Rattle.pdn_base.specs.declared.status.Who.TheVariants.{Sink}
use Rattle.pdn_script.specs.Rules.{Rules}
use Rattle.pdn_script.specs.Scripts.{Script, Finish, Say, Refuse, Ask}
use Rattle.pdn_script.specs.Ways.{Goes, End, Finished, NoMemory, PutFailed, Refused, Fails, Wrote, Closes, Follows, IsDue, TellAll}

module _ {Question : Type 0} {Told : Type 0} (rules : Rules Question Told) where
  module _ (rose : Who → Type 0) (calm : (who : Who) → rose who → ⊥) where
    -- the line and the status that an end leads to
    abbrev line_of : End → List ℕ
    line_of (Refused refused line) = line
    line_of other = []

    abbrev status_of : End → Status
    status_of Finished = status.Done
    status_of NoMemory = status.Memory
    status_of PutFailed = status.Unavailable Sink
    status_of (Refused refused line) = refused

    abbrev EndDue : Told → Script Question rules.Reply → List ℕ → End → Told → Type 0
    EndDue told script out end now = (end ≡ NoMemory) ⊎ IsDue rules told script (status_of end) (out ++ line_of end) now

    due_more : (told : Told) (text : List ℕ) (rest : Script Question rules.Reply) (out more : List ℕ) (end : End) (now : Told) → out ≡ text ++ more → EndDue told rest more end now → EndDue told (Say text rest) out end now
    due_more told text rest out more end now e (inl short) = inl short
    due_more told text rest out more end now e (inr due) = inr (more ++ line_of end, rw (e) (append_assoc text more (line_of end)), due)

    due_end : (told : Told) (script : Script Question rules.Reply) (out : List ℕ) (end : End) (now : Told) → Goes rules rose told script out end now → EndDue told script out end now
    due_end told Finish out end now (none, stays, inl is) = inr (rw (is) refl, rw (none, is) refl, stays)
    due_end told Finish out end now (none, stays, inr is) = inl is
    due_end told (Refuse refused line) out end now (none, stays, inl is) = inr (rw (is) refl, rw (none, is) refl, stays)
    due_end told (Refuse refused line) out end now (none, stays, inr is) = inl is
    due_end told (Say text rest) out end now (inl w) = inl w.2
    due_end told (Say text rest) out end now (inr (inl w)) = absurd (calm Sink w.3)
    due_end told (Say text rest) out end now (inr (inr w)) = due_more told text rest out w.0 end now w.1 (due_end told rest w.0 end now w.2)
    due_end told (Ask question next) out end now (inl w) = inl w.2
    due_end told (Ask question next) out end now (inr (inl w)) = let f : Fails rules rose question end = w.2 in absurd (calm f.who f.rise)
    due_end told (Ask question next) out end now (inr (inr w)) = elim (due_end (rules.after told question w.0) (next w.0) out end now w.2) [
      | inl short ↦ inl short
      | inr due ↦ inr (w.0, w.1, due)
    ]

    due_closed : (told : Told) (script : Script Question rules.Reply) (front last out : List ℕ) (end : End) (result : Status) (now : Told) → out ≡ front ++ last → EndDue told script front end now → Closes rose end last result →
        (result ≡ status.Memory) ⊎ IsDue rules told script result out now
    due_closed told script front last out Finished result now whole (inl short) c = cc
    due_closed told script front last out Finished result now whole (inr due) c = inr (rw (whole, c.0, c.1) due)
    due_closed told script front last out NoMemory result now whole d c = inl c.1
    due_closed told script front last out PutFailed result now whole (inl short) c = cc
    due_closed told script front last out PutFailed result now whole (inr due) c = inr (rw (whole, c.0, c.1) due)
    due_closed told script front last out (Refused refused line) result now whole (inl short) c = cc
    due_closed told script front last out (Refused refused line) result now whole (inr due) (is, inl put) = inr (rw (whole, put, is) due)
    due_closed told script front last out (Refused refused line) result now whole (inr due) (is, inr rise) = absurd (calm Sink rise.0)

    is_due : (told : Told) (script : Script Question rules.Reply) (out : List ℕ) (result : Status) (now : Told) → Follows rules rose told script out result now →
        (result ≡ status.Memory) ⊎ IsDue rules told script result out now
    is_due told script out result now a = due_closed told script a.front a.last out a.end result now a.whole (due_end told script a.front a.end now a.goes) a.closes

    -- the same, by what a sink has taken
    pub written_due : (told : Told) (script : Script Question rules.Reply) (old new : Option (List ℕ)) (result : Status) (now : Told) → Wrote old new (λ text. Follows rules rose told script text result now) →
        (result ≡ status.Memory) ⊎ Wrote old new (λ text. IsDue rules told script result text now)
    written_due told script old new result now w = elim (is_due told script w.0 result now w.2) [
      | inl short ↦ inl short
      | inr due ↦ inr (w.0, w.1, due)
    ]

  -- ---- what is due is one thing, where the objects tell all
  module _ (tells : Told → Type 0) (all : TellAll rules tells) where
    pub due_once : (told : Told) (script : Script Question rules.Reply) (result other : Status) (text more : List ℕ) (now then : Told) → tells told →
        IsDue rules told script result text now → IsDue rules told script other more then → (result ≡ other) × (text ≡ more) × (now ≡ then)
    due_once told Finish result other text more now then t (a, b, c) (d, e, f) = (a ∙ sym d, b ∙ sym e, c ∙ sym f)
    due_once told (Refuse refused line) result other text more now then t (a, b, c) (d, e, f) = (a ∙ sym d, b ∙ sym e, c ∙ sym f)
    due_once told (Say said rest) result other text more now then t (x, e, d) (y, f, g) =
        let same = due_once told rest result other x y now then t d g in (same.0, e ∙ (ap (λ (xs : List ℕ). said ++ xs) same.1 ∙ sym f), same.2)
    due_once told (Ask question next) result other text more now then t (x, gives, d) (y, also, g) =
        let same : x ≡ y = all.one_reply told question x y t gives also in
        due_once (rules.after told question x) (next x) result other text more now then (all.still told question x t gives) d
        (subst (λ (z : rules.Reply question). IsDue rules (rules.after told question z) (next z) other more then) (sym same) g)
