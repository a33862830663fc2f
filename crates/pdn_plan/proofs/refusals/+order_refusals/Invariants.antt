use Rattle.std.proofs.Common.{length}
use Rattle.pdn_plan.proofs.refusals.+order_refusals.Given as goal

abbrev pub decreases-order_refusals : goal.decreases-order_refusals
decreases-order_refusals l = length l.order.now
