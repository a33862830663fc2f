use Rattle.std.proofs.Common.{◌≤◌, ◌<◌, drop, length}
use Rattle.pdn_circuit.specs.Building.{Along}
use Rattle.pdn_circuit.specs.Compare.{all_gates, all_of_gates}
use Rattle.pdn_circuit.proofs.builder.Builder.all_of.Given as goal

abbrev pub invariant-loop-k : goal.invariant-loop-k
invariant-loop-k l = record {
  along : Along l.initial.self (all_of_gates l.planes) l.self (all_gates l.all (drop l.k l.planes));
  longer : length l.initial.self.gates ≤ length l.self.gates;
  all : l.all < length l.self.gates;
}
