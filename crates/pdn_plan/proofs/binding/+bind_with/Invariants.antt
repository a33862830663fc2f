use Rattle.std.proofs.Common.{length}
use Rattle.pdn_plan.proofs.binding.+bind_with.Given as goal

abbrev pub decreases-bind_with : goal.decreases-bind_with
decreases-bind_with l = length l.with.now
