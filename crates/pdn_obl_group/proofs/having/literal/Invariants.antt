use Rattle.std.proofs.Common.{◌≡◌}
use Rattle.pdn_circuit.specs.Compare.{literal_planes}
use Rattle.pdn_obl_group.proofs.having.literal.Given as goal

abbrev pub invariant-loop-bit : goal.invariant-loop-bit
invariant-loop-bit l = l.planes.items ≡ literal_planes l.bit l.number
