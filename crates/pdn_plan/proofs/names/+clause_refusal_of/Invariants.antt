use Rattle.std.proofs.Common.{length}
use Rattle.pdn_plan.proofs.names.+clause_refusal_of.Given as goal

abbrev pub decreases-clause_refusal_of : goal.decreases-clause_refusal_of
decreases-clause_refusal_of l = length l.cmps.now
