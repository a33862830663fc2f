use Rattle.std.proofs.Common.{length}
use Rattle.pdn_site.proofs.fits.+clauses_fit.Given as goal

abbrev pub decreases-clauses_fit : goal.decreases-clauses_fit
decreases-clauses_fit l = length l.clauses.now
