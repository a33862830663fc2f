use Rattle.std.proofs.Common.{◌≡◌, take, map}
use Rattle.pdn_plan.specs.Steps.{output_name}
use Rattle.pdn_plan.proofs.refusals.output_names.Given as goal

abbrev pub invariant-loop-item : goal.invariant-loop-item
invariant-loop-item l = l.out.items ≡ map output_name (take l.item-index l.items)
