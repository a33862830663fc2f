-- How a command may go along its script.
pub use Rattle.pdn_script.specs.Ways.{End, Finished, NoMemory, PutFailed, Refused, fault, Closes, Wrote}
use Rattle.std.specs.Prelude.{ℕ, List, ◌++◌, Result, MatchResult}
use Rattle.std.specs.Io.KnownBytes.{Appends}
use Rattle.pdn_base.specs.declared.status.Status.{Status}
use Rattle.pdn_base.specs.declared.status.Who.{Who}
use Rattle.pdn_script.specs.Stops.{stop_of}
use Rattle.pdn_script.specs.Ways as ways
use Rattle.pdn_script.specs.declared.stop.Stop.{Stop}
use Rattle.pdn_query.specs.Questions.{Told, questions}
use Rattle.pdn_query.specs.Script.{Script}
use Rattle.pdn_query.specs.World.{WorldModel, Counts, RoseIn, NotFallen}

-- ---- the words of a script's ways, for these questions

abbrev pub Goes : (Who → Type 0) → Told → Script → List ℕ → End → Told → Type 0
Goes = ways.Goes questions

abbrev pub Follows : (Who → Type 0) → Told → Script → List ℕ → Status → Told → Type 0
Follows = ways.Follows questions

abbrev pub Clears : Told → Script → Type 0
Clears = ways.Clears questions

abbrev pub Refusals : Told → (Status → Type 0) → Script → Type 0
Refusals = ways.Refusals questions

abbrev pub HasReason : (Who → Type 0) → Told → Script → Status → Type 0
HasReason = ways.HasReason questions

abbrev pub Texts : Told → (List ℕ → Told → Type 0) → Script → Type 0
Texts = ways.Texts questions

abbrev pub IsDue : Told → Script → Status → List ℕ → Told → Type 0
IsDue = ways.IsDue questions

-- ---- the same, from a world to a later one

-- Gone along a script to this end.
pub record Along (old new : WorldModel) (script : Script) (end : End) : Type 0 where
  pub out : List ℕ
  pub put : Appends old.written new.written out
  pub later : NotFallen old.counts new.counts
  pub goes : Goes (RoseIn old.counts new.counts) old.told script out end new.told

-- Gone along a script to where this is left of it: what goes on from there goes along the whole.
pub record Leads (old new : WorldModel) (whole rest : Script) : Type 0 where
  pub front : List ℕ
  pub put : Appends old.written new.written front
  pub later : NotFallen old.counts new.counts
  pub on : (before now : Counts) (out : List ℕ) (end : End) (last : Told) →
      Goes (RoseIn before now) new.told rest out end last → Goes (RoseIn before now) old.told whole (front ++ out) end last

-- Gone to what is left after a result, or to where the code stopped.
abbrev pub Came : {T : Type 0} → WorldModel → WorldModel → Script → (T → Script) → Result T Stop → Type 0
Came old new whole rest result = MatchResult result (λ value. Leads old new whole (rest value)) (λ stop. Along old new whole (stop_of stop))

-- A command that followed its script put these bytes and answered this status.
abbrev pub Answered : WorldModel → WorldModel → Script → Status → Type 0
Answered old new script result = Wrote old.written new.written (λ text. Follows (RoseIn old.counts new.counts) old.told script text result new.told)
