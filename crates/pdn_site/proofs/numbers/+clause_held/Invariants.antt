use Rattle.std.proofs.Common.{length}
use Rattle.pdn_site.proofs.numbers.+clause_held.Given as goal

abbrev pub decreases-clause_held : goal.decreases-clause_held
decreases-clause_held l = length l.clause.now
