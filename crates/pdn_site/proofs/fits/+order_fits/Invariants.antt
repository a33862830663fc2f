use Rattle.std.proofs.Common.{length}
use Rattle.pdn_site.proofs.fits.+order_fits.Given as goal

abbrev pub decreases-order_fits : goal.decreases-order_fits
decreases-order_fits l = length l.order.now
