use Rattle.std.proofs.Common.{ℕ, ◌<◌}
use Rattle.pdn_agree.proofs.SpotLaws.{TableSame}
use Rattle.pdn_agree.proofs.spot.disagree.Given as goal

abbrev pub invariant-loop-table : goal.invariant-loop-table
invariant-loop-table l = (t : ℕ) → t < l.table → TableSame l.schema l.first l.second t
