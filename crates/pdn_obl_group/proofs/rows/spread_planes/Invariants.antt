use Rattle.std.proofs.Common.{◌≡◌, ◌≤◌, ◌<◌, drop, length}
use Rattle.std.specs.List.{All}
use Rattle.pdn_circuit.specs.Blocks.{each, ◌>>=◌}
use Rattle.pdn_circuit.specs.Building.{Along}
use Rattle.pdn_circuit.proofs.Making.{give_after}
use Rattle.pdn_obl_group.specs.Loops.{spread_gates}
use Rattle.pdn_obl_group.proofs.rows.spread_planes.Given as goal

abbrev pub invariant-loop-k : goal.invariant-loop-k
invariant-loop-k l = record {
  along : Along l.initial.b (each (spread_gates l.row) l.planes) l.b (each (spread_gates l.row) (drop l.k l.planes) >>= give_after l.gates.items);
  longer : length l.initial.b.gates ≤ length l.b.gates;
  there : All (λ gate. gate < length l.b.gates) l.gates.items;
  count : length l.gates.items ≡ l.k;
}
