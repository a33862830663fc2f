use Rattle.std.proofs.Common.{length}
use Rattle.pdn_site.proofs.laying.+widths.Given as goal

abbrev pub decreases-widths : goal.decreases-widths
decreases-widths l = length l.kinds.now
