use Rattle.std.proofs.Common.{length}
use Rattle.pdn_plan.proofs.split.+left_over.Given as goal

abbrev pub decreases-left_over : goal.decreases-left_over
decreases-left_over l = length l.bounds.now
