use Rattle.std.proofs.Common.{length}
use Rattle.pdn_plan.proofs.names.+place.Given as goal

abbrev pub decreases-place : goal.decreases-place
decreases-place l = length l.scope.now
