use Rattle.std.proofs.Common.{◌≤◌, length}
use Rattle.pdn_circuit.specs.Compare.{not_gates}
use Rattle.pdn_obl_rank.specs.Building.{GatesThere}
use Rattle.pdn_obl_rank.proofs.Looping.{AlongEach}
use Rattle.pdn_obl_rank.proofs.inverting.invert_plane.Given as goal

abbrev pub invariant-loop-k : goal.invariant-loop-k
invariant-loop-k l = record {
  along : AlongEach (not_gates) l.initial.b l.b l.plane l.k l.words.items;
  longer : length l.initial.b.gates ≤ length l.b.gates;
  there : GatesThere (length l.b.gates) l.words.items;
}
