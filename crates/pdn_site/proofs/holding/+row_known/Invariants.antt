use Rattle.std.proofs.Common.{length}
use Rattle.pdn_site.proofs.holding.+row_known.Given as goal

abbrev pub decreases-row_known : goal.decreases-row_known
decreases-row_known l = length l.values.now
