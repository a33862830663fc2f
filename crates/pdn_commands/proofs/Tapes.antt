-- What the tape may change in a script.
use Rattle.std.proofs.Common.{◌≡◌, ℕ, List, [], refl, sym, subst, ap, None, Some, Option}
use Rattle.pdn_schema.specs.Models.{SchemaModel}
use Rattle.pdn_sql.specs.declared.query.Query.{Query}
use Rattle.pdn_view.specs.declared.view.Party.{Party}
use Rattle.pdn_broker.specs.Runs.{Tape}
use Rattle.pdn_query.specs.Script.{Script}
use Rattle.pdn_commands.specs.Commands.{Task, Run, Check, Twin, Load, Generate, task_of, task_script, run_script, shown, SameOnTapes}
use Rattle.pdn_commands.specs.Running.{queries_script}
use Rattle.pdn_commands.specs.Script.{with_inputs, with_queries}
use Rattle.pdn_commands.specs.Twinning.{of_each}

module _ (tape other : Tape) where
  -- nothing of the tape stands in an answer without views
  queries_same : (s : SchemaModel) (number : ℕ) (queries : List Query) → queries_script tape [] s number queries ≡ queries_script other [] s number queries
  queries_same s number queries = refl

  run_same : (file : List ℕ) → run_script tape [] file ≡ run_script other [] file
  run_same file = ap (λ (next : SchemaModel → List ℕ → Script). with_inputs file next) (λ i s sql. ap (with_queries sql) (λ j queries. queries_same s 1 queries j) i)

  task_same : (task : Option Task) → shown task ≡ [] → task_script of_each tape task ≡ task_script of_each other task
  task_same None none = refl
  task_same (Some (Run file workers parties)) none =
      let same : run_script tape [] file ≡ run_script other [] file = run_same file in
      subst (λ (shows : List Party). run_script tape shows file ≡ run_script other shows file) (sym none) same
  task_same (Some (Check file)) none = refl
  task_same (Some (Twin site file folder workers)) none = cc
  task_same (Some (Load site table number file)) none = refl
  task_same (Some (Generate seed patients workers)) none = refl

pub same_on_tapes : SameOnTapes
same_on_tapes tape other words none = task_same tape other (task_of words) none
