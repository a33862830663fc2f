use Rattle.std.proofs.Common.{length}
use Rattle.pdn_plan.proofs.steps.+firsts_after.Given as goal

abbrev pub decreases-firsts_after : goal.decreases-firsts_after
decreases-firsts_after l = length l.columns.now
