use Rattle.std.proofs.Common.{length}
use Rattle.pdn_plan.proofs.sources.+bounds_after.Given as goal

abbrev pub decreases-bounds_after : goal.decreases-bounds_after
decreases-bounds_after l = length l.sources.now
