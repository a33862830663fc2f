use Rattle.std.proofs.Common.{◌≡◌, take}
use Rattle.pdn_obl_rank.specs.Keys.{planes_up}
use Rattle.pdn_obl_rank.proofs.numbers.planes_up.Given as goal

abbrev pub invariant-loop-k : goal.invariant-loop-k
invariant-loop-k l = l.planes.items ≡ planes_up (take l.k l.numbers)
