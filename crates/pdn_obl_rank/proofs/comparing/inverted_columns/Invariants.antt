use Rattle.std.proofs.Common.{◌≤◌, length}
use Rattle.pdn_obl_rank.specs.Keys.{inverted_gates}
use Rattle.pdn_obl_rank.specs.Building.{ColumnsThere}
use Rattle.pdn_obl_rank.proofs.Looping.{AlongEach}
use Rattle.pdn_obl_rank.proofs.comparing.inverted_columns.Given as goal

abbrev pub invariant-loop-k : goal.invariant-loop-k
invariant-loop-k l = record {
  along : AlongEach (inverted_gates l.list) l.initial.b l.b l.downs l.k l.inverted.items;
  longer : length l.initial.b.gates ≤ length l.b.gates;
  there : ColumnsThere (length l.b.gates) l.inverted.items;
}
