use Rattle.std.proofs.Common.{◌≡◌, take, map}
use Rattle.pdn_plan.specs.Steps.{output_name}
use Rattle.pdn_plan.specs.Planning.{what_kind}
use Rattle.pdn_plan.proofs.block.given_by.Given as goal

abbrev pub invariant-loop-item : goal.invariant-loop-item
invariant-loop-item l = l.out.items ≡ map (λ i. record { name = output_name i; kind = what_kind l.scope i.what }) (take l.item-index l.items)
