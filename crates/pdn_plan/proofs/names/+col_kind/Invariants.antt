use Rattle.std.proofs.Common.{length}
use Rattle.pdn_plan.proofs.names.+col_kind.Given as goal

abbrev pub decreases-col_kind : goal.decreases-col_kind
decreases-col_kind l = length l.scope.now
