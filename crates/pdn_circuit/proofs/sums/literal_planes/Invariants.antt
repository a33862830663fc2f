use Rattle.std.proofs.Common.{◌≡◌, map}
use Rattle.std.specs.Int.{bit_at}
use Rattle.std.specs.List.{range_with_len}
use Rattle.pdn_circuit.proofs.sums.literal_planes.Given as goal

abbrev pub invariant-loop-k : goal.invariant-loop-k
invariant-loop-k l = l.planes.items ≡ map (bit_at l.number) (range_with_len 0 l.k)
