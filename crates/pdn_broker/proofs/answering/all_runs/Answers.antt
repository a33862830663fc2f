use Rattle.std.proofs.Common.{ap, ap₂, ◌∙◌, List, [], ◌∷◌, ◌++◌}
use Rattle.pdn_gmw.specs.Pairs.{Run}
use Rattle.pdn_broker.specs.Running.{outputs_of}
use Rattle.pdn_broker.proofs.answering.all_runs.Goals as goal

pub root_run-requires-after_bounds : goal.root_run-requires-after_bounds
root_run-requires-after_bounds g c κs within = c.in_ok-given.ensures ∙ ap outputs_of (c.as_slice.ensures.value ∙ c.in_ok-runs.ensures)

pub returns : goal.returns
returns g c = c.in_ok-push.ensures.items ∙ ap₂ (λ (runs : List Run) (root : Run). runs ++ root ∷ []) c.in_ok-runs.ensures c.in_ok-root.ensures
