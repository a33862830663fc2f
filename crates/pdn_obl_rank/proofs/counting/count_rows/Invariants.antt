use Rattle.std.proofs.Common.{◌≡◌, ◌≤◌, ◌-◌, length}
use Rattle.pdn_circuit.specs.Building.{Along}
use Rattle.pdn_obl_group.specs.Loops.{in_turn}
use Rattle.pdn_obl_rank.specs.Numbers.{row_gates}
use Rattle.pdn_obl_rank.specs.Building.{PlanesThere}
use Rattle.pdn_obl_rank.proofs.counting.count_rows.Given as goal

abbrev pub invariant-loop-row : goal.invariant-loop-row
invariant-loop-row l = record {
  along : Along l.initial.b (in_turn (row_gates l.compared) 0 l.len l.initial.counters.items) l.b (in_turn (row_gates l.compared) l.row (l.len - l.row) l.counters.items);
  longer : length l.initial.b.gates ≤ length l.b.gates;
  there : PlanesThere (length l.b.gates) l.counters.items;
  count : length l.counters.items ≡ length l.compared.valid;
}
