use Rattle.std.proofs.Common.{◌≡◌, take, map}
use Rattle.pdn_plan.specs.Names.{place}
use Rattle.pdn_plan.proofs.steps.order_columns.Given as goal

abbrev pub invariant-loop-by : goal.invariant-loop-by
invariant-loop-by l = l.out.items ≡ map (λ o. place l.scope o.col) (take l.by-index l.order)
