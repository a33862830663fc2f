use Rattle.std.proofs.Common.{◌≤◌, ◌<◌, drop, length}
use Rattle.std.specs.List.{All}
use Rattle.pdn_circuit.specs.Blocks.{◌>>=◌}
use Rattle.pdn_circuit.specs.Building.{Along}
use Rattle.pdn_circuit.specs.Compare.{agree_gates}
use Rattle.pdn_circuit.proofs.Making.{give_after}
use Rattle.pdn_circuit.proofs.builder.Builder.agree.Given as goal

abbrev pub invariant-loop-k : goal.invariant-loop-k
invariant-loop-k l = record {
  along : Along l.initial.self (agree_gates l.x l.y) l.self (agree_gates (drop l.k l.x) (drop l.k l.y) >>= give_after l.planes.items);
  longer : length l.initial.self.gates ≤ length l.self.gates;
  there : All (λ plane. plane < length l.self.gates) l.planes.items;
}
