use Rattle.std.proofs.Common.{length}
use Rattle.pdn_tree.proofs.labels.+highest_key.Given as goal

abbrev pub decreases-highest_key : goal.decreases-highest_key
decreases-highest_key l = length l.order.now
