use Rattle.std.proofs.Common.{length}
use Rattle.pdn_plan.proofs.steps.+window_step.Given as goal

abbrev pub decreases-window_step : goal.decreases-window_step
decreases-window_step l = length l.items.now
