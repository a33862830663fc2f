use Rattle.pdn_plan.proofs.BindingLaws.{open-to-all}
use Rattle.pdn_plan.proofs.binding.released_plan.Goals as goal

pub invariant_of-result : goal.invariant_of-result
invariant_of-result c = record { root = c.requires.top; one = c.requires.one; open_to_all = open-to-all c.args.columns.items (rw c.as_slice.ensures.value at c.in_ok-released.ensures) }
