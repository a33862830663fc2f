use Rattle.std.proofs.Common.{length}
use Rattle.pdn_plan.proofs.refusals.+repeat_after.Given as goal

abbrev pub decreases-repeat_after : goal.decreases-repeat_after
decreases-repeat_after l = length l.names.now
