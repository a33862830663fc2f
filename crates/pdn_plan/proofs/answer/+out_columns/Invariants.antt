use Rattle.std.proofs.Common.{length}
use Rattle.pdn_plan.proofs.answer.+out_columns.Given as goal

abbrev pub decreases-out_columns : goal.decreases-out_columns
decreases-out_columns l = length l.items.now
