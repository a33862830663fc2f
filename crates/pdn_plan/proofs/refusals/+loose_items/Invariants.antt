use Rattle.std.proofs.Common.{length}
use Rattle.pdn_plan.proofs.refusals.+loose_items.Given as goal

abbrev pub decreases-loose_items : goal.decreases-loose_items
decreases-loose_items l = length l.items.now
