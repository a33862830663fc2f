use Rattle.std.proofs.Common.{length}
use Rattle.pdn_tree.proofs.labels.+highest_at.Given as goal

abbrev pub decreases-highest_at : goal.decreases-highest_at
decreases-highest_at l = length l.columns.now
