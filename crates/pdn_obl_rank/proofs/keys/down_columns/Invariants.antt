use Rattle.std.proofs.Common.{◌≡◌, take}
use Rattle.pdn_obl_rank.specs.Keys.{down_columns}
use Rattle.pdn_obl_rank.proofs.keys.down_columns.Given as goal

abbrev pub invariant-loop-k : goal.invariant-loop-k
invariant-loop-k l = l.downs.items ≡ down_columns (take l.k l.order)
