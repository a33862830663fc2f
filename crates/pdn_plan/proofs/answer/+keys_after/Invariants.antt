use Rattle.std.proofs.Common.{length}
use Rattle.pdn_plan.proofs.answer.+keys_after.Given as goal

abbrev pub decreases-keys_after : goal.decreases-keys_after
decreases-keys_after l = length l.order.now
