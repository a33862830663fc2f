-- How a command may go along its script, and what is due.
use Rattle.std.specs.Prelude.{◌≡◌, ℕ, ◌⊎◌, List, [], ◌++◌, take, Option, Some}
use Rattle.std.specs.Io.KnownBytes.{Appends}
use Rattle.pdn_base.specs.Texts.{refusal}
use Rattle.pdn_base.specs.declared.status.Status.{Status}
use Rattle.pdn_base.specs.declared.status.Status.TheVariants as status
use Rattle.pdn_base.specs.declared.status.Who.{Who}
use Rattle.pdn_base.specs.declared.status.Who.TheVariants.{Sink}
use Rattle.pdn_script.specs.Rules.{Rules}
use Rattle.pdn_script.specs.Scripts.{Script, Finish, Refuse, Say, Ask}

-- how the steps come to an end
pub data End : Type 0 where
  Finished : End
  NoMemory : End
  PutFailed : End  -- of a step's text
  Refused : Status → List ℕ → End  -- with the line that is to be put

-- the refusal that names the object that failed
abbrev pub fault : Who → End
fault who = Refused (status.Unavailable who) (refusal [] [] (status.Unavailable who))

-- A refusal's line is put, or a front of it where that put failed.
abbrev pub Closes : (Who → Type 0) → End → List ℕ → Status → Type 0
Closes rose Finished out result = (out ≡ []) × (result ≡ status.Done)
Closes rose NoMemory out result = (out ≡ []) × (result ≡ status.Memory)
Closes rose PutFailed out result = (out ≡ []) × (result ≡ status.Unavailable Sink)
Closes rose (Refused refused line) out result = (result ≡ refused) × ((out ≡ line) ⊎ (rose Sink × (k : ℕ) × (out ≡ take k line)))

-- what a sink that tells it has taken
abbrev pub Wrote : Option (List ℕ) → Option (List ℕ) → (List ℕ → Type 0) → Type 0
Wrote old new P = (out : List ℕ) × Appends old new out × P out

-- a status that a refusal may have
pub record IsPlain (refused : Status) : Type 0 where
  pub not_done : refused ≡ status.Done → ⊥
  pub not_memory : refused ≡ status.Memory → ⊥

module _ {Question : Type 0} {Told : Type 0} (rules : Rules Question Told) where
  -- the object that a question asks failed
  pub record Fails (rose : Who → Type 0) (question : Question) (end : End) : Type 0 where
    pub who : Who
    pub asked : rules.asked_of question ≡ Some who
    pub rise : rose who
    pub ends : end ≡ fault who

  -- Gone along this script, with these bytes put, to this end, where the objects hold this: all the way, or to where memory
  -- ran out or an object failed.
  abbrev pub Goes : (Who → Type 0) → Told → Script Question rules.Reply → List ℕ → End → Told → Type 0
  Goes rose told Finish out end now = (out ≡ []) × (now ≡ told) × ((end ≡ Finished) ⊎ (end ≡ NoMemory))
  Goes rose told (Refuse refused line) out end now = (out ≡ []) × (now ≡ told) × ((end ≡ Refused refused line) ⊎ (end ≡ NoMemory))
  Goes rose told (Say text rest) out end now = ((out ≡ []) × (now ≡ told) × (end ≡ NoMemory)) ⊎ ((k : ℕ) × (out ≡ take k text) × (now ≡ told) × rose Sink × (end ≡ PutFailed))
      ⊎ ((more : List ℕ) × (out ≡ text ++ more) × Goes rose told rest more end now)
  Goes rose told (Ask question next) out end now = ((out ≡ []) × (now ≡ told) × (end ≡ NoMemory)) ⊎ ((out ≡ []) × rules.AfterFault told question now × Fails rose question end)
      ⊎ ((reply : rules.Reply question) × rules.Gives told question reply × Goes rose (rules.after told question reply) (next reply) out end now)

  -- A command along this script put these bytes and answered this status; the objects now hold this.
  pub record Follows (rose : Who → Type 0) (told : Told) (script : Script Question rules.Reply) (out : List ℕ) (result : Status) (now : Told) : Type 0 where
    pub end : End
    pub front : List ℕ
    pub last : List ℕ
    pub whole : out ≡ front ++ last
    pub goes : Goes rose told script front end now
    pub closes : Closes rose end last result

  -- No refusal stands on any way along the script that the objects' content allows.
  abbrev pub Clears : Told → Script Question rules.Reply → Type 0
  Clears told Finish = Unit {0}
  Clears told (Refuse refused line) = ⊥
  Clears told (Say text rest) = Clears told rest
  Clears told (Ask question next) = (reply : rules.Reply question) → rules.Gives told question reply → Clears (rules.after told question reply) (next reply)

  -- Each refusal on a way along the script that the objects' content allows has P.
  abbrev pub Refusals : Told → (Status → Type 0) → Script Question rules.Reply → Type 0
  Refusals told P Finish = Unit {0}
  Refusals told P (Refuse refused line) = P refused
  Refusals told P (Say text rest) = Refusals told P rest
  Refusals told P (Ask question next) = (reply : rules.Reply question) → rules.Gives told question reply → Refusals (rules.after told question reply) P (next reply)

  -- This status stands as a refusal at the end of a way along the script that the objects' content allows.
  abbrev pub Reached : Told → Script Question rules.Reply → Status → Type 0
  Reached told Finish result = ⊥
  Reached told (Refuse refused line) result = result ≡ refused
  Reached told (Say text rest) result = Reached told rest result
  Reached told (Ask question next) result = (reply : rules.Reply question) × rules.Gives told question reply × Reached (rules.after told question reply) (next reply) result

  -- Why a status is answered: all was done, memory ran out, the count of this object rose, or this refusal is reached.
  abbrev pub HasReason : (Who → Type 0) → Told → Script Question rules.Reply → Status → Type 0
  HasReason rose told script result = (result ≡ status.Done) ⊎ (result ≡ status.Memory) ⊎ ((who : Who) × (result ≡ status.Unavailable who) × rose who) ⊎ Reached told script result

  -- The whole text of each way along the script that the objects' content allows, and that ends without a refusal, has Q, with
  -- what the objects then hold.
  abbrev pub Texts : Told → (List ℕ → Told → Type 0) → Script Question rules.Reply → Type 0
  Texts told Q Finish = Q [] told
  Texts told Q (Refuse refused line) = Unit {0}
  Texts told Q (Say text rest) = Texts told (λ more now. Q (text ++ more) now) rest
  Texts told Q (Ask question next) = (reply : rules.Reply question) → rules.Gives told question reply → Texts (rules.after told question reply) Q (next reply)

  -- The script comes to this status over these objects, with this text, its refusal's line included, and leaves them so.
  abbrev pub IsDue : Told → Script Question rules.Reply → Status → List ℕ → Told → Type 0
  IsDue told Finish result text now = (result ≡ status.Done) × (text ≡ []) × (now ≡ told)
  IsDue told (Refuse refused line) result text now = (result ≡ refused) × (text ≡ line) × (now ≡ told)
  IsDue told (Say said rest) result text now = (more : List ℕ) × (text ≡ said ++ more) × IsDue told rest result more now
  IsDue told (Ask question next) result text now = (reply : rules.Reply question) × rules.Gives told question reply × IsDue (rules.after told question reply) (next reply) result text now

  -- Objects that tell all, by this test: each question has one true reply, and they still tell all after it.
  pub record TellAll (tells : Told → Type 0) : Type 0 where
    pub one_reply : (told : Told) (question : Question) (reply other : rules.Reply question) → tells told → rules.Gives told question reply → rules.Gives told question other → reply ≡ other
    pub still : (told : Told) (question : Question) (reply : rules.Reply question) → tells told → rules.Gives told question reply → tells (rules.after told question reply)
