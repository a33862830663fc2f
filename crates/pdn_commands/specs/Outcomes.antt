-- Why a command may answer each status, and what Done comes with.
use Rattle.std.specs.Prelude.{◌⊎◌, ℕ, List}
use Rattle.pdn_base.specs.declared.status.Status.{Status}
use Rattle.pdn_base.specs.declared.status.Who.{Who}
use Rattle.pdn_broker.specs.Runs.{Tape}
use Rattle.pdn_query.specs.Questions.{Told}
use Rattle.pdn_commands.specs.Causes.{Cause, IsDone}
use Rattle.pdn_commands.specs.Generated.{IsGenerated}
use Rattle.pdn_commands.specs.TwinCauses.{TwinCause, IsTwinned}

-- a cause of every command, or one of a twin alone
abbrev pub HasCause : (Who → Type 0) → Told → List (List ℕ) → Status → Type 0
HasCause rose told words result = Cause rose told words result ⊎ TwinCause told words result

-- What is printed is what a run, a check or a load prints, the twin of each query, or the standing queries' answers in short.
abbrev pub IsAllDone : Tape → Told → List (List ℕ) → List ℕ → Told → Type 0
IsAllDone tape told words text now = IsDone tape told words text now ⊎ IsTwinned tape told words text now ⊎ IsGenerated told words text now
