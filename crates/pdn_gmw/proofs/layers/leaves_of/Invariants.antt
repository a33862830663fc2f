use Rattle.std.proofs.Common.{◌≡◌, ◌≤◌, length, take}
use Rattle.std.specs.List.{count_by}
use Rattle.pdn_circuit.specs.Gates.{is_input}
use Rattle.pdn_gmw.specs.Layers.{leaves_to}
use Rattle.pdn_gmw.proofs.layers.leaves_of.Given as goal

abbrev pub invariant-loop-k : goal.invariant-loop-k
invariant-loop-k l = record {
  end : l.k-end ≡ length l.circuit.gates;
  inputs : l.inputs ≡ count_by is_input (take l.k l.circuit.gates);
  few : l.inputs ≤ l.k;
  leaves : l.leaves.items ≡ leaves_to l.circuit.gates l.k;
}
