use Rattle.std.proofs.Common.{◌≡◌, take}
use Rattle.pdn_obl_rank.specs.Keys.{row_columns}
use Rattle.pdn_obl_rank.proofs.numbers.row_columns.Given as goal

abbrev pub invariant-loop-k : goal.invariant-loop-k
invariant-loop-k l = l.numbers.items ≡ row_columns l.row (take l.k l.places)
