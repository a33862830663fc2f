use Rattle.std.proofs.Common.{◌≡◌, map, take}
use Rattle.pdn_obl_group.specs.Loops.{count_planes}
use Rattle.pdn_obl_rank.proofs.numbering.ints.Given as goal

abbrev pub invariant-loop-k : goal.invariant-loop-k
invariant-loop-k l = l.ints.items ≡ map count_planes (take l.k l.counters)
