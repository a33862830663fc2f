use Rattle.std.proofs.Common.{◌≡◌, ◌-◌, ◌≤◌, ◌<◌, length, replicate}
use Rattle.std.specs.List.{All}
use Rattle.pdn_circuit.specs.Building.{Along}
use Rattle.pdn_obl_group.specs.Loops.{in_turn}
use Rattle.pdn_obl_group.specs.Operators.{distinct_row}
use Rattle.pdn_obl_group.proofs.repeats.marked.Given as goal

abbrev pub invariant-loop-row : goal.invariant-loop-row
invariant-loop-row l = record {
  along : Along l.initial.b (in_turn (distinct_row l.list) 0 l.list.len (replicate (length l.list.valid) 0)) l.b (in_turn (distinct_row l.list) l.row (l.list.len - l.row) l.dups.items);
  longer : length l.initial.b.gates ≤ length l.b.gates;
  there : All (λ gate. gate < length l.b.gates) l.dups.items;
  count : length l.dups.items ≡ length l.list.valid;
}
