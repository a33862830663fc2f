use Rattle.std.proofs.Common.{length}
use Rattle.pdn_site.proofs.numbers.+clauses_held.Given as goal

abbrev pub decreases-clauses_held : goal.decreases-clauses_held
decreases-clauses_held l = length l.clauses.now
