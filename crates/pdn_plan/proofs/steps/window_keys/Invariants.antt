use Rattle.std.proofs.Common.{◌≡◌, take, map}
use Rattle.pdn_plan.specs.Names.{place}
use Rattle.pdn_plan.specs.Steps.{window_key}
use Rattle.pdn_plan.proofs.steps.window_keys.Given as goal

abbrev pub invariant-loop-by : goal.invariant-loop-by
invariant-loop-by l = l.out.items ≡ map (window_key (place l.scope)) (take l.by-index l.order)
