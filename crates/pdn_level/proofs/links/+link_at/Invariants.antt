use Rattle.std.proofs.Common.{length}
use Rattle.pdn_level.proofs.links.+link_at.Given as goal

abbrev pub decreases-link_at : goal.decreases-link_at
decreases-link_at l = length l.links.now
