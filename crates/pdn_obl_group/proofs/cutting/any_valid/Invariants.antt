use Rattle.std.proofs.Common.{◌-◌, ◌≤◌, ◌<◌, length}
use Rattle.pdn_circuit.specs.Building.{Along}
use Rattle.pdn_obl_group.specs.Loops.{in_turn}
use Rattle.pdn_obl_group.specs.Operators.{any_row}
use Rattle.pdn_obl_group.proofs.cutting.any_valid.Given as goal

abbrev pub invariant-loop-row : goal.invariant-loop-row
invariant-loop-row l = record {
  along : Along l.initial.b (in_turn (any_row l.list) 0 l.list.len 0) l.b (in_turn (any_row l.list) l.row (l.list.len - l.row) l.any);
  longer : length l.initial.b.gates ≤ length l.b.gates;
  there : l.any < length l.b.gates;
}
