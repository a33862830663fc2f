use Rattle.std.proofs.Common.{length}
use Rattle.pdn_plan.proofs.split.+ons_columns.Given as goal

abbrev pub decreases-ons_columns : goal.decreases-ons_columns
decreases-ons_columns l = length l.bounds.now
