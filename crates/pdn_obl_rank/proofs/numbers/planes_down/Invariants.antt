use Rattle.std.proofs.Common.{◌≡◌, ◌-◌, drop, length}
use Rattle.pdn_obl_rank.specs.Keys.{planes_down}
use Rattle.pdn_obl_rank.proofs.numbers.planes_down.Given as goal

abbrev pub invariant-loop-k : goal.invariant-loop-k
invariant-loop-k l = l.planes.items ≡ planes_down (drop (length l.numbers - l.k) l.numbers)
