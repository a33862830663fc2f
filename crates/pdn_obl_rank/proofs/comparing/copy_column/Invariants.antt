use Rattle.std.proofs.Common.{◌≡◌, take}
use Rattle.pdn_obl_rank.proofs.comparing.copy_column.Given as goal

abbrev pub invariant-loop-k : goal.invariant-loop-k
invariant-loop-k l = l.copies.items ≡ take l.k l.planes
