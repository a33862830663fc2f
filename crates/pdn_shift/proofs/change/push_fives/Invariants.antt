use Rattle.std.proofs.Common.{◌≡◌, ◌≤◌, ◌*◌, ◌++◌, length, take}
use Rattle.pdn_circuit.specs.Gates.{ands}
use Rattle.pdn_shift.specs.Changes.{fives_changed}
use Rattle.pdn_shift.proofs.change.push_fives.Given as goal

abbrev pub invariant-loop-gate : goal.invariant-loop-gate
invariant-loop-gate l = record {
  at : l.at ≡ 5 * length (ands (take l.gate-index l.gates));
  within : l.at ≤ length l.words;
  words : l.changed.items ≡ l.initial.changed.items ++ fives_changed l.site l.differences (ands (take l.gate-index l.gates)) l.words;
}
