-- What the rows of the desk come to.
use Rattle.std.specs.Prelude.{◌≡◌, ◌⊎◌, ◌==◌, ℕ, Bool, List, Option, Some}
use Rattle.std.specs.List.{filter}
use Rattle.pdn_base.specs.declared.status.Who.TheVariants.{Desk}
use Rattle.pdn_schema.specs.Models.{SchemaModel}
use Rattle.pdn_http.specs.declared.call.Call.{Call}
use Rattle.pdn_http.specs.Requests.{Outcome, Silent, Refused, Get, Post}
use Rattle.pdn_desk_keeper.specs.Desks.{DeskHeld, KeptCall, KeptText, Step, kept_text}
use Rattle.pdn_desk_keeper.specs.Runs.{IsRun}
use Rattle.pdn_query.specs.Questions.{Told}
use Rattle.pdn_query.specs.World.{Counts, RoseIn}
use Rattle.pdn_desk.specs.Courses.{Course}
use Rattle.pdn_desk.specs.Replies.{reply, desk_failure}
use Rattle.pdn_desk.specs.Requests.{course_of}
use Rattle.pdn_desk.specs.Ways.{End, Makes, Comes}

-- ---- a call is made again

-- The desk's keeper holds this for a call, which is made again with its text: what is kept is replied, no ticket is taken, and
-- nothing changes. Memory may run out, or the keeper fail.
abbrev pub Repeats : Type 0
Repeats = (before now : Counts) (s : SchemaModel) (call : Call) (old new : Told) (held : DeskHeld) (kept : KeptText) (course : Course) (end : End)
    → old.desk ≡ Some held → kept_text call.caller call.number held.calls ≡ Some kept → course_of s (Post call kept.text) ≡ Some course
    → Comes (RoseIn before now) old course end new
    → (new ≡ old) × (Makes (reply 200 kept.body) end ⊎ (RoseIn before now Desk × Makes desk_failure end))

-- ---- what a caller's replies depend on

abbrev pub is_by : ℕ → KeptCall → Bool
is_by caller call = call.caller == caller

-- the outcome is a request of this caller, or has none
abbrev pub IsOf : ℕ → Outcome → Type 0
IsOf caller Silent = Unit {0}
IsOf caller (Refused refusal) = Unit {0}
IsOf caller (Get call) = call.caller ≡ caller
IsOf caller (Post call text) = call.caller ≡ caller

-- the sites' rows, the next ticket and this caller's own kept calls are the same; other callers' calls may differ
pub record SameFor (caller : ℕ) (one other : Told) : Type 0 where
  pub files : other.files ≡ one.files
  pub a : other.a ≡ one.a
  pub b : other.b ≡ one.b
  pub held : DeskHeld
  pub held_there : DeskHeld
  pub told : one.desk ≡ Some held
  pub told_there : other.desk ≡ Some held_there
  pub next : held_there.next ≡ held.next
  pub calls : filter (is_by caller) held_there.calls ≡ filter (is_by caller) held.calls

-- A caller's request comes to the same ends whatever is kept of other callers' calls, and leaves the rest the same.
abbrev pub CallersApart : Type 0
CallersApart = (before now : Counts) (s : SchemaModel) (caller : ℕ) (outcome : Outcome) (course : Course) (one other new : Told) (end : End)
    → IsOf caller outcome → course_of s outcome ≡ Some course → SameFor caller one other
    → Comes (RoseIn before now) one course end new
    → (last : Told) × Comes (RoseIn before now) other course end last × SameFor caller new last

-- ---- what the desk's keeper is asked

-- What is asked of the desk's keeper is a run of it. That the tickets of such runs rise is a law of the keeper.
abbrev pub AsksDesk : Option DeskHeld → Option DeskHeld → Type 0
AsksDesk old new = (steps : List Step) × IsRun old steps new
