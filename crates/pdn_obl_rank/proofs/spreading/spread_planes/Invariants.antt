use Rattle.std.proofs.Common.{◌≤◌, length}
use Rattle.pdn_obl_group.specs.Loops.{spread_gates}
use Rattle.pdn_obl_rank.specs.Building.{GatesThere}
use Rattle.pdn_obl_rank.proofs.Looping.{AlongEach}
use Rattle.pdn_obl_rank.proofs.spreading.spread_planes.Given as goal

abbrev pub invariant-loop-k : goal.invariant-loop-k
invariant-loop-k l = record {
  along : AlongEach (spread_gates l.row) l.initial.b l.b l.planes l.k l.bits.items;
  longer : length l.initial.b.gates ≤ length l.b.gates;
  there : GatesThere (length l.b.gates) l.bits.items;
}
