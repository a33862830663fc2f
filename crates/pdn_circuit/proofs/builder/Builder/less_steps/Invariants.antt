use Rattle.std.proofs.Common.{◌≡◌, ◌<◌, ◌≤◌, drop, length}
use Rattle.pdn_circuit.specs.Building.{Along}
use Rattle.pdn_circuit.specs.Compare.{less_gates}
use Rattle.pdn_circuit.proofs.builder.Builder.less_steps.Given as goal

abbrev pub invariant-loop-k : goal.invariant-loop-k
invariant-loop-k l = record {
  along : Along l.initial.self (less_gates l.fn.init l.x l.y) l.self (less_gates l.less (drop l.k l.x) (drop l.k l.y));
  longer : length l.initial.self.gates ≤ length l.self.gates;
  less : l.less < length l.self.gates;
}
