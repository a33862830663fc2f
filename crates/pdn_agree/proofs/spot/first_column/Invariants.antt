use Rattle.std.proofs.Common.{ℕ, ◌<◌}
use Rattle.pdn_agree.specs.Columns.{SameIfPublic}
use Rattle.pdn_agree.proofs.spot.first_column.Given as goal

abbrev pub invariant-loop-i : goal.invariant-loop-i
invariant-loop-i l = (k : ℕ) → k < l.i → SameIfPublic l.columns l.first l.second k
