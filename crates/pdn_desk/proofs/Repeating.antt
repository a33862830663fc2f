-- A call that is kept is made again.
use Rattle.std.proofs.Common.{◌≡◌, ◌⊎◌, ℕ, Bool, true, false, List, Option, None, Some, refl, sym, subst, ap, ◌∙◌, inl, inr}
use Rattle.std.specs.Prelude.{IfSome, if◌then◌else◌, codes}
use Rattle.std.specs.Str.{bytes_eq}
use Rattle.std.proofs.lemmas.Bool.{false≢true}
use Rattle.std.proofs.lemmas.Slice.Eq.{bytes_eq-Decides}
use Rattle.pdn_base.specs.declared.status.Who.{Who}
use Rattle.pdn_base.specs.declared.status.Who.TheVariants.{Desk}
use Rattle.pdn_schema.specs.Models.{SchemaModel}
use Rattle.pdn_http.specs.declared.call.Call.{Call}
use Rattle.pdn_desk_keeper.specs.Desks.{DeskHeld, KeptText, kept_text}
use Rattle.pdn_query.specs.Questions.{Told}
use Rattle.pdn_query.specs.World.{Counts, RoseIn}
use Rattle.pdn_desk.specs.Courses.{Course, Reply, Find, failing}
use Rattle.pdn_desk.specs.Laws.{Repeats}
use Rattle.pdn_desk.specs.Replies.{reply, desk_failure}
use Rattle.pdn_desk.specs.Requests.{posting, repeating}
use Rattle.pdn_desk.specs.Ways.{End, Makes, Comes}

abbrev from_some : {X : Type 0} → X → Option X → X
from_some x None = x
from_some x (Some y) = y

pub some_is : {X : Type 0} (x y : X) → Some x ≡ Some y → x ≡ y
some_is {X} x y e = ap (λ (o : Option X). from_some x o) e

-- what is told of the keeper is what is found
found_is : (desk : Option DeskHeld) (held : DeskHeld) (found known : Option KeptText) (caller number : ℕ) → desk ≡ Some held → kept_text caller number held.calls ≡ known
    → IfSome desk (λ held. found ≡ kept_text caller number held.calls) → found ≡ known
found_is desk held found known caller number tells is answer = (subst (λ (d : Option DeskHeld). IfSome d (λ held. found ≡ kept_text caller number held.calls)) tells answer) ∙ is

module _ (rose : Who → Type 0) where
  same_text : (told now : Told) (kept : KeptText) (end : End) (b : Bool) → b ≡ true → Comes rose told (if b then Reply 200 kept.body else failing 409 (codes "differs")) end now → (now ≡ told) × Makes (reply 200 kept.body) end
  same_text told now kept end true e c = c
  same_text told now kept end false e c = absurd (false≢true e)

  repeated : (s : SchemaModel) (call : Call) (old new : Told) (held : DeskHeld) (kept : KeptText) (end : End) → old.desk ≡ Some held → kept_text call.caller call.number held.calls ≡ Some kept
      → Comes rose old (Find call (posting s call kept.text)) end new → (new ≡ old) × (Makes (reply 200 kept.body) end ⊎ (rose Desk × Makes desk_failure end))
  repeated s call old new held kept end tells is (inl (same, short)) = (same, inl (inr short))
  repeated s call old new held kept end tells is (inr (inl (same, rise, made))) = (same, inr (rise, made))
  repeated s call old new held kept end tells is (inr (inr (found, answer, c))) =
      let here = found_is old.desk held found (Some kept) call.caller call.number tells is answer in
      let r = same_text old new kept end (bytes_eq kept.text kept.text) ((bytes_eq-Decides kept.text kept.text).1 refl)
      (subst (λ (f : Option KeptText). Comes rose old (posting s call kept.text f) end new) here c) in
      (r.0, inl r.1)

pub repeats : Repeats
repeats before now s call old new held kept course end tells is e comes =
    repeated (RoseIn before now) s call old new held kept end tells is
    (subst (λ (c : Course). Comes (RoseIn before now) old c end new) (sym (some_is (Find call (posting s call kept.text)) course e)) comes)
