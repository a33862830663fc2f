use Rattle.std.proofs.Common.{◌≡◌, ◌≤◌, ◌<◌, drop, length}
use Rattle.pdn_circuit.specs.Building.{Along}
use Rattle.pdn_circuit.specs.Compare.{one_gate}
use Rattle.pdn_obl_rows.specs.Conditions.{and_gates, clause_gates, cond_gates, joined_after}
use Rattle.pdn_obl_rows.proofs.conditions.cond_gate.Given as goal

abbrev pub invariant-loop-k : goal.invariant-loop-k
invariant-loop-k l = record {
  along : Along l.fn.b (cond_gates l.list l.word l.clauses) l.b (joined_after (clause_gates l.list l.word) and_gates l.all (drop l.k l.clauses));
  longer : length l.fn.b.gates ≤ length l.b.gates;
  all : l.all < length l.b.gates;
}
