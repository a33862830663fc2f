use Rattle.std.proofs.Common.{length, ◌-◌, ◌≡◌, ◌≤◌, take}
use Rattle.pdn_circuit.specs.Evaluating.{run_gates}
use Rattle.pdn_circuit.proofs.joined.run_length.Given as goal

abbrev pub invariant-loop-len : goal.invariant-loop-len
invariant-loop-len l = record {
  within : l.len ≤ length l.gates;
  most : l.len ≤ l.most;
  gates : take l.len l.gates ≡ run_gates l.joint l.from.0 l.from.1 l.len;
}

abbrev pub decreases-loop-len : goal.decreases-loop-len
decreases-loop-len l = length l.gates - l.len
