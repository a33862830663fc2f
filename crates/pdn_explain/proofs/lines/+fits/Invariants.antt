use Rattle.std.proofs.Common.{length}
use Rattle.pdn_explain.proofs.lines.+fits.Given as goal

abbrev pub decreases-fits : goal.decreases-fits
decreases-fits l = length l.form.now
