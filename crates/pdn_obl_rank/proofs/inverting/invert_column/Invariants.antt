use Rattle.std.proofs.Common.{◌≤◌, length}
use Rattle.pdn_circuit.specs.Blocks.{each}
use Rattle.pdn_circuit.specs.Compare.{not_gates}
use Rattle.pdn_obl_rank.specs.Building.{PlanesThere}
use Rattle.pdn_obl_rank.proofs.Looping.{AlongEach}
use Rattle.pdn_obl_rank.proofs.inverting.invert_column.Given as goal

abbrev pub invariant-loop-k : goal.invariant-loop-k
invariant-loop-k l = record {
  along : AlongEach (λ plane. each not_gates plane) l.initial.b l.b l.planes l.k l.inverted.items;
  longer : length l.initial.b.gates ≤ length l.b.gates;
  there : PlanesThere (length l.b.gates) l.inverted.items;
}
