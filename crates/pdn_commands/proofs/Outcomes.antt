-- Why a command answers each status, and what Done comes with.
use Rattle.std.proofs.Common.{◌≡◌, ℕ, List, None, Some, Option, inl, inr, refl, subst}
use Rattle.pdn_base.specs.declared.status.Status.{Status}
use Rattle.pdn_base.specs.declared.status.Status.TheVariants as status
use Rattle.pdn_base.specs.declared.status.Who.{Who}
use Rattle.pdn_base.specs.declared.status.Who.TheVariants.{Sink}
use Rattle.pdn_broker.specs.Runs.{Tape}
use Rattle.pdn_query.specs.Questions.{Told, questions}
use Rattle.pdn_query.specs.Script.{Script}
use Rattle.pdn_query.specs.Walk.{Refusals, Texts, Follows, End, NoMemory, Closes, Wrote, Along}
use Rattle.pdn_query.specs.World.{WorldModel, RoseIn}
use Rattle.pdn_script.specs.Ways.{IsPlain}
use Rattle.pdn_script.proofs.Ends.{status_has, done_text, memory_end}
use Rattle.pdn_commands.specs.Causes.{IsDone}
use Rattle.pdn_commands.specs.Commands.{Task, Run, Check, Twin, Load, Generate, task_of, task_script, run_script, check_script, script}
use Rattle.pdn_commands.specs.Script.{load_script}
use Rattle.pdn_commands.specs.Twinning.{of_each, twin_script}
use Rattle.pdn_commands.specs.Outcomes.{HasCause, IsAllDone}
use Rattle.pdn_commands.specs.TwinCauses.{IsTwinned}
use Rattle.pdn_commands.proofs.Refusing.{refusals_map}
use Rattle.pdn_commands.proofs.Saying.{texts_map}
use Rattle.pdn_commands.proofs.Causes.{Refused as RefusedAlone, run_caused, check_caused, load_task_caused, run_text, check_text, load_task_text}
use Rattle.pdn_commands.specs.Generating.{generate_script}
use Rattle.pdn_commands.specs.Generated.{IsGenerated}
use Rattle.pdn_commands.proofs.Generating.{generate_caused, generate_text}
use Rattle.pdn_commands.proofs.TwinReasons.{Refused, twin_caused, twin_text}

module _ (tape : Tape) (rose : Who → Type 0) (told : Told) (words : List (List ℕ)) where
  -- a cause of every command is a cause
  cause_of_all : (result : Status) → RefusedAlone rose told words result → Refused rose told words result
  cause_of_all status.Done h = h
  cause_of_all status.Memory h = h
  cause_of_all status.Words h = inl h
  cause_of_all (status.Schema line cause) h = inl h
  cause_of_all (status.Sql place kind) h = inl h
  cause_of_all (status.Plan kind name) h = inl h
  cause_of_all (status.Forbidden column label) h = inl h
  cause_of_all (status.TooLarge limit unit) h = inl h
  cause_of_all (status.BadRows site table wrong) h = inl h
  cause_of_all (status.NoFile name) h = inl h
  cause_of_all (status.Unavailable who) h = inl h
  cause_of_all status.TicketsSpent h = inl h
  cause_of_all (status.Csv entry cause) h = inl h
  cause_of_all (status.BatchDiffers row) h = inl h
  cause_of_all (status.OverBound column) h = inl h
  cause_of_all (status.Disagree table column) h = inl h

  alone : (script : Script) → Refusals told (RefusedAlone rose told words) script → Refusals told (Refused rose told words) script
  alone script r = refusals_map (RefusedAlone rose told words) (Refused rose told words) cause_of_all told script r

  task_caused : (task : Option Task) → task_of words ≡ task → Refusals told (Refused rose told words) (task_script of_each tape task)
  task_caused None e = inl e
  task_caused (Some (Run file workers parties)) e = alone (run_script tape parties file) (run_caused tape rose told words file workers parties e)
  task_caused (Some (Check file)) e = alone (check_script file) (check_caused tape rose told words file e)
  task_caused (Some (Twin site file folder workers)) e = twin_caused tape rose told words site file folder workers e
  task_caused (Some (Load site table number file)) e = alone (load_script site table number file) (load_task_caused tape rose told words site table number file e)
  task_caused (Some (Generate seed patients workers)) e = alone (generate_script seed patients) (generate_caused words seed patients workers e rose told)

  cause_of : (result : Status) → Refused rose told words result → HasCause rose told words result
  cause_of status.Done h = absurd h
  cause_of status.Memory h = absurd h
  cause_of status.Words h = h
  cause_of (status.Schema line cause) h = h
  cause_of (status.Sql place kind) h = h
  cause_of (status.Plan kind name) h = h
  cause_of (status.Forbidden column label) h = h
  cause_of (status.TooLarge limit unit) h = h
  cause_of (status.BadRows site table wrong) h = h
  cause_of (status.NoFile name) h = h
  cause_of (status.Unavailable who) h = h
  cause_of status.TicketsSpent h = h
  cause_of (status.Csv entry cause) h = h
  cause_of (status.BatchDiffers row) h = h
  cause_of (status.OverBound column) h = h
  cause_of (status.Disagree table column) h = h

  refusal_plain : (result : Status) → Refused rose told words result → IsPlain result
  refusal_plain result h = record { not_done = λ e. subst (Refused rose told words) e h; not_memory = λ e. subst (Refused rose told words) e h }

  pub caused : (out : List ℕ) (result : Status) (now : Told) → Follows rose told (script tape words) out result now → HasCause rose told words result
  caused out result now a = status_has questions rose (HasCause rose told words) (λ who up. inl up) told (script tape words) out result now (inl tt) (inl tt)
      (refusals_map (Refused rose told words) (HasCause rose told words) cause_of told (script tape words) (task_caused (task_of words) refl)) a

  pub all_plain : Refusals told IsPlain (script tape words)
  all_plain = refusals_map (Refused rose told words) IsPlain refusal_plain told (script tape words) (task_caused (task_of words) refl)

-- ---- what Done comes with
module _ (tape : Tape) (told : Told) (words : List (List ℕ)) where
  task_text : (task : Option Task) → task_of words ≡ task → Texts told (IsAllDone tape told words) (task_script of_each tape task)
  task_text None e = tt
  task_text (Some (Run file workers parties)) e = texts_map (IsDone tape told words) (IsAllDone tape told words) (λ text now is. inl is) told (run_script tape parties file) (run_text tape told words file workers parties e)
  task_text (Some (Check file)) e = texts_map (IsDone tape told words) (IsAllDone tape told words) (λ text now is. inl is) told (check_script file) (check_text tape told words file e)
  task_text (Some (Twin site file folder workers)) e = texts_map (IsTwinned tape told words) (IsAllDone tape told words) (λ text now is. inr (inl is)) told (twin_script of_each tape site file folder) (twin_text tape told words site file folder workers e)
  task_text (Some (Load site table number file)) e = texts_map (IsDone tape told words) (IsAllDone tape told words) (λ text now is. inl is) told (load_script site table number file) (load_task_text tape told words site table number file e)
  task_text (Some (Generate seed patients workers)) e = texts_map (IsGenerated told words) (IsAllDone tape told words) (λ text now is. inr (inr is)) told (generate_script seed patients) (generate_text words seed patients workers e told)

  pub does : (rose : Who → Type 0) (out : List ℕ) (result : Status) (now : Told) → Follows rose told (script tape words) out result now → result ≡ status.Done → IsAllDone tape told words out now
  does rose out result now a done = done_text questions rose told (IsAllDone tape told words) (script tape words) out result now (all_plain tape rose told words) (task_text (task_of words) refl) a done

-- where the status is Memory, memory ran out on the way
pub spent_end : (tape : Tape) (a b c : WorldModel) (words : List (List ℕ)) (end : End) (result : Status) → Along a b (script tape words) end →
    Wrote b.written c.written (λ text. Closes (λ _. RoseIn b.counts c.counts Sink) end text result) → result ≡ status.Memory → end ≡ NoMemory
spent_end tape a b c words end result w closes e = memory_end questions (RoseIn a.counts b.counts) (λ _. RoseIn b.counts c.counts Sink) a.told (script tape words) w.out closes.0 end result b.told
    (all_plain tape (RoseIn a.counts b.counts) a.told words) w.goes closes.2 e
