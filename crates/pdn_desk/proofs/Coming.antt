-- Going along a course from world to world.
use Rattle.std.proofs.Common.{◌≡◌, ℕ, List, [], ◌∷◌, Option, None, Some, Result, Ok, Err, refl, sym, subst, ap, ◌∙◌, inl, inr, ◌⊎◌}
use Rattle.std.specs.Prelude.{IfOk, IfSome, IsErrOf, Bool, false, nat_le, codes, if◌then◌else◌}
use Rattle.std.specs.List.{slice_get}
use Rattle.pdn_schema.specs.Models.{SchemaModel}
use Rattle.pdn_base.specs.declared.memory.Memory.{Memory}
use Rattle.pdn_base.specs.declared.status.Status.{Status}
use Rattle.pdn_base.specs.declared.status.Status.TheVariants as status
use Rattle.pdn_base.specs.declared.status.Who.{Who}
use Rattle.pdn_base.specs.declared.status.Who.TheVariants.{Desk}
use Rattle.pdn_keeper.specs.Batches.{BatchHeld}
use Rattle.pdn_keeper.specs.declared.site_keeper.KeepErr.{KeepErr}
use Rattle.pdn_keeper.specs.declared.site_keeper.KeepErr.TheVariants as unkept
use Rattle.pdn_http.specs.declared.call.Call.{Call}
use Rattle.pdn_sql.specs.declared.query.Query.{Query}
use Rattle.pdn_sql.specs.Reading.{Says as SaysQueries}
use Rattle.pdn_desk_keeper.specs.Desks as desks
use Rattle.pdn_desk_keeper.specs.Desks.{DeskHeld, KeptText}
use Rattle.pdn_script.specs.declared.stop.Stop.{Stop}
use Rattle.pdn_script.specs.Stops.{stop_of}
use Rattle.pdn_script.proofs.Going.{goes_within}
use Rattle.pdn_query.specs.Questions.{Told, OnlyDesk, told_by, with_desk, questions}
use Rattle.pdn_query.specs.Script.{Script, Finish, Refuse}
use Rattle.pdn_query.specs.World.{WorldModel, Counts, RoseIn, NotFallen, Beside}
use Rattle.pdn_query.proofs.Walks.{steady, not_fallen, rose_within, only_both, only_same}
use Rattle.pdn_desk.specs.Calls.{Called, with_kept}
use Rattle.pdn_desk.specs.Courses.{Course, Reply, Find, Count, Read, Answer, Keep, failing}
use Rattle.pdn_desk.specs.Requests.{calling, calls_of, answering_text}
use Rattle.pdn_desk.specs.Replies.{ReplyBytes, reply, desk_failure}
use Rattle.pdn_desk.specs.Ways.{End, Replied, NoMemory, Makes, Comes, Came, On, CameBy, Fails, StopMakes, IsUnsaid, Says, end_of}

-- ---- what the objects hold

told_is : (files files' : Option (List ℕ → Option (List ℕ))) (a a' b b' : Option (List BatchHeld)) (desk desk' : Option DeskHeld) →
    files' ≡ files → a' ≡ a → b' ≡ b → desk' ≡ desk → told_by files' a' b' desk' ≡ told_by files a b desk
told_is files files' a a' b b' desk desk' e f g h = rw (e, f, g, h) refl

-- only the desk changed, to this
pub only_desk : (old new : Told) (desk : Option DeskHeld) → OnlyDesk old new → new.desk ≡ desk → new ≡ with_desk old desk
only_desk old new desk (files, a, b) e = told_is old.files new.files old.a new.a old.b new.b desk new.desk files a b e

-- not even the desk
pub none_changed : (old new : Told) → OnlyDesk old new → new.desk ≡ old.desk → new ≡ old
none_changed old new only e = only_desk old new old.desk only e

-- ---- counts that rose within the whole

module _ (rose more : Who → Type 0) (up : (who : Who) → rose who → more who) where
  pub comes_within : (told : Told) (course : Course) (end : End) (now : Told) → Comes rose told course end now → Comes more told course end now
  comes_within told (Reply status body) end now c = c
  comes_within told (Find call next) end now (inl c) = inl c
  comes_within told (Find call next) end now (inr (inl (same, rise, made))) = inr (inl (same, up Desk rise, made))
  comes_within told (Find call next) end now (inr (inr (found, is, c))) = inr (inr (found, is, comes_within told (next found) end now c))
  comes_within told (Count caller next) end now (inl c) = inl c
  comes_within told (Count caller next) end now (inr (inl (same, rise, made))) = inr (inl (same, up Desk rise, made))
  comes_within told (Count caller next) end now (inr (inr (count, is, c))) = inr (inr (count, is, comes_within told (next count) end now c))
  comes_within told (Read text next) end now (inl c) = inl c
  comes_within told (Read text next) end now (inr (inl c)) = inr (inl c)
  comes_within told (Read text next) end now (inr (inr (query, says, c))) = inr (inr (query, says, comes_within told (next query) end now c))
  comes_within told (Answer script next) end now (inl ((out, w), is)) = inl ((out, goes_within questions rose more up told (script (λ said. Finish)) out _ now w), is)
  comes_within told (Answer script next) end now (inr (inl (refused, line, (out, w), made))) = inr (inl (refused, line, (out, goes_within questions rose more up told (script (λ said. Finish)) out _ now w), made))
  comes_within told (Answer script next) end now (inr (inr (body, mid, (out, w), c))) =
      inr (inr (body, mid, (out, goes_within questions rose more up told (script (λ said. Refuse status.Done said)) out _ mid w), comes_within mid (next body) end now c))
  comes_within told (Keep call kept) end now (inl c) = inl c
  comes_within told (Keep call kept) end now (inr (inl (stands, rise, made))) = inr (inl (stands, up Desk rise, made))
  comes_within told (Keep call kept) end now (inr (inr c)) = inr (inr c)

-- the same from a later world on
pub later_on : (old mid new : WorldModel) (course : Course) (end : End) → NotFallen old.counts mid.counts → Came mid new course end → Comes (RoseIn old.counts new.counts) mid.told course end new.told
later_on old mid new course end later c = comes_within (RoseIn mid.counts new.counts) (RoseIn old.counts new.counts)
    (λ who r. rose_within old.counts mid.counts new.counts new.counts who later (steady new.counts) r) mid.told course end new.told c.comes

-- ---- the desk's keeper is asked

abbrev unfound : KeepErr → Result (Option KeptText) KeepErr
unfound e = Err e

abbrev uncounted : KeepErr → Result ℕ KeepErr
uncounted e = Err e

abbrev not_kept : KeepErr → Result (Unit {0}) KeepErr
not_kept e = Err e

module _ {old mid : WorldModel} {step : desks.Step} {failed : Type 0} (called : Called old mid step failed) where
  pub unchanged : mid.told.desk ≡ old.told.desk → mid.told ≡ old.told
  unchanged e = none_changed old.told mid.told called.only e

  -- what goes on after it
  pub on_after : mid.told.desk ≡ old.told.desk → (whole rest : Course) →
      ((rose : Who → Type 0) (end : End) (now : Told) → Comes rose old.told rest end now → Comes rose old.told whole end now) → On old mid whole rest
  on_after same whole rest wrap = λ new end c. record {
    comes = wrap (RoseIn old.counts new.counts) end new.told
        (subst (λ (told : Told). Comes (RoseIn old.counts new.counts) told rest end new.told) (unchanged same) (later_on old mid new rest end called.beside.later c));
    only = only_both old.told mid.told new.told called.only c.only;
    later = not_fallen old.counts mid.counts new.counts called.beside.later c.later;
  }

  -- where it gave no answer
  pub ends_after : mid.told.desk ≡ old.told.desk → (whole : Course) (end : End) → Comes (RoseIn old.counts mid.counts) old.told whole end old.told → Came old mid whole end
  ends_after same whole end c = record {
    comes = subst (λ (told : Told). Comes (RoseIn old.counts mid.counts) old.told whole end told) (sym (unchanged same)) c;
    only = called.only;
    later = called.beside.later;
  }

module _ {old mid : WorldModel} where
  pub found : (call : Call) (next : Option KeptText → Course) (x : Option KeptText) {failed : Type 0} → Called old mid (desks.Find call.caller call.number (Ok x)) failed → On old mid (Find call next) (next x)
  found call next x called = on_after called called.stands (Find call next) (next x) (λ rose end now c. inr (inr (x, called.answer, c)))

  pub counted : (caller : ℕ) (next : ℕ → Course) (x : ℕ) {failed : Type 0} → Called old mid (desks.Count caller (Ok x)) failed → On old mid (Count caller next) (next x)
  counted caller next x called = on_after called called.stands (Count caller next) (next x) (λ rose end now c. inr (inr (x, called.answer, c)))

  pub not_found : (call : Call) (next : Option KeptText → Course) (e : KeepErr) (end : End) → Called old mid (desks.Find call.caller call.number (Err e)) (IsErrOf (unfound e) unkept.Failed) →
      Fails e end → Came old mid (Find call next) end
  not_found call next unkept.Failed end called made = ends_after called called.stands (Find call next) end (inr (inl (refl, called.cause refl, made)))
  not_found call next unkept.Memory end called is = ends_after called called.stands (Find call next) end (inl (refl, is))

  pub not_counted : (caller : ℕ) (next : ℕ → Course) (e : KeepErr) (end : End) → Called old mid (desks.Count caller (Err e)) (IsErrOf (uncounted e) unkept.Failed) →
      Fails e end → Came old mid (Count caller next) end
  not_counted caller next unkept.Failed end called made = ends_after called called.stands (Count caller next) end (inr (inl (refl, called.cause refl, made)))
  not_counted caller next unkept.Memory end called is = ends_after called called.stands (Count caller next) end (inl (refl, is))

  -- a call is kept, or it isn't
  kept_is : (call : Call) (kept : KeptText) {step : desks.Step} {failed : Type 0} → Called old mid step failed →
      mid.told.desk ≡ desks.with_call (desks.kept_call call.caller call.number kept) old.told.desk → mid.told ≡ with_kept old.told call kept
  kept_is call kept called e = only_desk old.told mid.told _ called.only e

  pub kept : (call : Call) (text : KeptText) {failed : Type 0} → Called old mid (desks.Keep call.caller call.number text (Ok tt)) failed → Came old mid (Keep call text) (Replied (reply 200 text.body))
  kept call text called = record { comes = inr (inr (kept_is call text called called.stands, refl)); only = called.only; later = called.beside.later }

  may_be_kept : (call : Call) (text : KeptText) {step : desks.Step} {failed : Type 0} → Called old mid step failed →
      (mid.told.desk ≡ old.told.desk) ⊎ (mid.told.desk ≡ desks.with_call (desks.kept_call call.caller call.number text) old.told.desk) → (mid.told ≡ old.told) ⊎ (mid.told ≡ with_kept old.told call text)
  may_be_kept call text called (inl e) = inl (unchanged called e)
  may_be_kept call text called (inr e) = inr (kept_is call text called e)

  pub keep_failed : (call : Call) (text : KeptText) → Called old mid (desks.Keep call.caller call.number text (Err unkept.Failed)) (IsErrOf (not_kept unkept.Failed) unkept.Failed) → Came old mid (Keep call text) (Replied desk_failure)
  keep_failed call text called = record { comes = inr (inl (may_be_kept call text called called.stands, called.cause refl, refl)); only = called.only; later = called.beside.later }

  pub keep_short : (call : Call) (text : KeptText) {failed : Type 0} → Called old mid (desks.Keep call.caller call.number text (Err unkept.Memory)) failed → Came old mid (Keep call text) NoMemory
  keep_short call text called = ends_after called called.stands (Keep call text) NoMemory (inl (refl, refl))

-- ---- where no object is asked

module _ (w : WorldModel) where
  pub stays : (course : Course) (end : End) → Comes (RoseIn w.counts w.counts) w.told course end w.told → Came w w course end
  stays course end c = record { comes = c; only = only_same w.told w.told refl; later = steady w.counts }

  -- a reply is made
  pub replies : (status : ℕ) (body : List ℕ) (end : End) → Makes (reply status body) end → Came w w (Reply status body) end
  replies status body end made = stays (Reply status body) end (refl, made)

  pub keeps_short : (call : Call) (text : KeptText) → Came w w (Keep call text) NoMemory
  keeps_short call text = stays (Keep call text) NoMemory (inl (refl, refl))

-- the calls of a caller aren't spent
pub not_spent : (old mid : WorldModel) (s : SchemaModel) (call : Call) (text : List ℕ) (count : ℕ) {failed : Type 0} → nat_le (calls_of (slice_get s.callers call.caller)) count ≡ false →
    Called old mid (desks.Count call.caller (Ok count)) failed → On old mid (calling s call text) (answering_text s call text)
not_spent old mid s call text count e called =
    let next : ℕ → Course = λ count. if nat_le (calls_of (slice_get s.callers call.caller)) count then failing 429 (codes "spent") else answering_text s call text in
    subst (λ (rest : Course). On old mid (Count call.caller next) rest) (ap (λ (b : Bool). if b then failing 429 (codes "spent") else answering_text s call text) e) (counted call.caller next count called)

-- a reply that is made, unless memory runs out
pub makes : (made : ReplyBytes) (result : Result ReplyBytes Memory) → IfOk result (λ x. x ≡ made) → Makes made (end_of result)
makes made (Ok x) is = inl (ap Replied is)
makes made (Err e) is = inr refl

-- ---- a text is read

module _ {old new : WorldModel} where
  read_on : (text : List ℕ) (next : Query → Course) (query : Query) (end : End) → SaysQueries 1 text (query ∷ []) → Came old new (next query) end → Came old new (Read text next) end
  read_on text next query end says c = record { comes = inr (inr (query, says, c.comes)); only = c.only; later = c.later }

module _ {T : Type 0} (old new : WorldModel) where
  pub read_by : (text : List ℕ) (next : Query → Course) (query : Query) (rest : T → Course) (result : Result T Stop) → SaysQueries 1 text (query ∷ []) → CameBy old new (next query) rest result → CameBy old new (Read text next) rest result
  read_by text next query rest (Ok x) says came = λ last end c. read_on text next query end says (came last end c)
  read_by text next query rest (Err stop) says came = λ end made. read_on text next query end says (came end made)
