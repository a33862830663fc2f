use Rattle.std.proofs.Common.{◌≡◌, ◌≤◌, ◌<◌, drop, length}
use Rattle.pdn_circuit.specs.Building.{Along}
use Rattle.pdn_circuit.specs.Compare.{or_gates}
use Rattle.pdn_obl_rows.specs.Conditions.{cmp_gates, clause_gates, joined_after}
use Rattle.pdn_obl_rows.proofs.conditions.clause_gate.Given as goal

abbrev pub invariant-loop-k : goal.invariant-loop-k
invariant-loop-k l = record {
  along : Along l.fn.b (clause_gates l.list l.word l.clause) l.b (joined_after (cmp_gates l.list l.word) or_gates l.any (drop l.k l.clause));
  longer : length l.fn.b.gates ≤ length l.b.gates;
  any : l.any < length l.b.gates;
}
