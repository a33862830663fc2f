use Rattle.std.proofs.Common.{length}
use Rattle.pdn_plan.proofs.answer.+released.Given as goal

abbrev pub decreases-released : goal.decreases-released
decreases-released l = length l.columns.now
