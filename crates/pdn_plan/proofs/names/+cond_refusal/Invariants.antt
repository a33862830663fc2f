use Rattle.std.proofs.Common.{length}
use Rattle.pdn_plan.proofs.names.+cond_refusal.Given as goal

abbrev pub decreases-cond_refusal : goal.decreases-cond_refusal
decreases-cond_refusal l = length l.clauses.now
