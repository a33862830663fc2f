use Rattle.std.proofs.Common.{◌≡◌, take, length}
use Rattle.pdn_tree.specs.Columns.{place_in}
use Rattle.pdn_plan.specs.Names.{place}
use Rattle.pdn_plan.specs.Steps.{items_at}
use Rattle.pdn_plan.proofs.steps.items_at.Given as goal

abbrev pub invariant-loop-item : goal.invariant-loop-item
invariant-loop-item l = l.out.items ≡ items_at (λ c. place_in l.columns (place l.scope c)) (length l.columns) (take l.item-index l.items)
