use Rattle.std.proofs.Common.{length}
use Rattle.pdn_plan.proofs.names.+cols_refusal.Given as goal

abbrev pub decreases-cols_refusal : goal.decreases-cols_refusal
decreases-cols_refusal l = length l.cols.now
