use Rattle.std.proofs.Common.{length}
use Rattle.pdn_plan.proofs.sources.+scope_of.Given as goal

abbrev pub decreases-scope_of : goal.decreases-scope_of
decreases-scope_of l = length l.sources.now
