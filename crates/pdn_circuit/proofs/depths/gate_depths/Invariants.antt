use Rattle.std.proofs.Common.{◌≡◌, ◌≤◌, ℕ, length, take}
use Rattle.std.specs.Prelude.{slice_index}
use Rattle.pdn_circuit.specs.Depths.{depths_of}
use Rattle.pdn_circuit.proofs.depths.gate_depths.Given as goal

abbrev pub invariant-loop-gate : goal.invariant-loop-gate
invariant-loop-gate l = record {
  depths : l.depths.items ≡ depths_of (take l.gate-index l.circuit.gates);
  long : length l.depths.items ≡ l.gate-index;
  small : (k : ℕ) → slice_index l.depths.items k ≤ k;
}
