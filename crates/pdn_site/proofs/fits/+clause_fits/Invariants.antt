use Rattle.std.proofs.Common.{length}
use Rattle.pdn_site.proofs.fits.+clause_fits.Given as goal

abbrev pub decreases-clause_fits : goal.decreases-clause_fits
decreases-clause_fits l = length l.clause.now
