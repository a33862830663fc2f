use Rattle.std.proofs.Common.{◌≡◌, ◌++◌, ◌+◌, ◌*◌, drop}
use Rattle.pdn_obl_rows.specs.Lists.{widths, cells_at}
use Rattle.pdn_obl_rows.specs.Encoding.{RowIsOf, planes_from}
use Rattle.pdn_obl_rows.proofs.decoding.row_at.Given as goal

abbrev pub invariant-loop-k : goal.invariant-loop-k
invariant-loop-k l = record {
  cells : l.values.items ++ cells_at l.words l.row (drop l.k l.kinds) (planes_from (l.plane * l.step) l.step (widths (drop l.k l.kinds))) ≡ cells_at l.words l.row l.kinds (planes_from l.step l.step (widths l.kinds));
  kinds : RowIsOf (drop l.k l.kinds) (cells_at l.words l.row (drop l.k l.kinds) (planes_from (l.plane * l.step) l.step (widths (drop l.k l.kinds))));
  planes : l.plane + widths (drop l.k l.kinds) ≡ widths l.kinds + 1;
}
