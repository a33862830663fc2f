use Rattle.std.proofs.Common.{◌≡◌, ◌<◌, drop, take, length}
use Rattle.std.specs.List.{All}
use Rattle.pdn_circuit.specs.Blocks.{◌>>=◌}
use Rattle.pdn_circuit.specs.Building.{Along}
use Rattle.pdn_circuit.proofs.Making.{give_after}
use Rattle.pdn_obl_rows.specs.Lists.{widths}
use Rattle.pdn_obl_group.specs.Operators.{value_gates}
use Rattle.pdn_obl_group.proofs.cutting.value_planes.Given as goal

abbrev pub invariant-loop-k : goal.invariant-loop-k
invariant-loop-k l = record {
  along : Along l.initial.b (value_gates l.value l.kinds) l.b (value_gates l.value (drop l.k l.kinds) >>= give_after l.planes.items);
  there : All (λ gate. gate < length l.b.gates) l.planes.items;
  count : length l.planes.items ≡ widths (take l.k l.kinds);
}
