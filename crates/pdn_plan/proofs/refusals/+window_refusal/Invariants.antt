use Rattle.std.proofs.Common.{length}
use Rattle.pdn_plan.proofs.refusals.+window_refusal.Given as goal

abbrev pub decreases-window_refusal : goal.decreases-window_refusal
decreases-window_refusal l = length l.order.now
