use Rattle.std.proofs.Common.{◌≡◌, take}
use Rattle.pdn_plan.specs.Names.{place}
use Rattle.pdn_plan.specs.Steps.{items_columns}
use Rattle.pdn_plan.proofs.steps.items_columns.Given as goal

abbrev pub invariant-loop-item : goal.invariant-loop-item
invariant-loop-item l = l.out.items ≡ items_columns (place l.scope) (take l.item-index l.items)
