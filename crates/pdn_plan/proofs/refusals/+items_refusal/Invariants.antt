use Rattle.std.proofs.Common.{length}
use Rattle.pdn_plan.proofs.refusals.+items_refusal.Given as goal

abbrev pub decreases-items_refusal : goal.decreases-items_refusal
decreases-items_refusal l = length l.items.now
