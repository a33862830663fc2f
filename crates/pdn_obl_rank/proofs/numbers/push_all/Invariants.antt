use Rattle.std.proofs.Common.{◌≡◌, ◌++◌, take}
use Rattle.pdn_obl_rank.proofs.numbers.push_all.Given as goal

abbrev pub invariant-loop-bit : goal.invariant-loop-bit
invariant-loop-bit l = l.planes.items ≡ l.initial.planes.items ++ take l.bit-index l.bits
