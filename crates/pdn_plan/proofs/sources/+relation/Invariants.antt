use Rattle.std.proofs.Common.{length}
use Rattle.pdn_plan.proofs.sources.+relation.Given as goal

abbrev pub decreases-relation : goal.decreases-relation
decreases-relation l = length l.earlier.now
