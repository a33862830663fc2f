use Rattle.std.proofs.Common.{length}
use Rattle.pdn_plan.proofs.sources.+refusal_after.Given as goal

abbrev pub decreases-refusal_after : goal.decreases-refusal_after
decreases-refusal_after l = length l.sources.now
