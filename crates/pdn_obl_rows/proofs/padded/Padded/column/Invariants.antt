use Rattle.std.proofs.Common.{◌≡◌, drop, length}
use Rattle.pdn_obl_rows.specs.Lists.{planes_before, widths}
use Rattle.pdn_obl_rows.proofs.padded.Padded.column.Given as goal

abbrev pub invariant-loop-k : goal.invariant-loop-k
invariant-loop-k l = record {
  planes : l.planes ≡ drop (planes_before l.self.kinds l.k) l.self.planes;
  count : length l.self.planes ≡ widths l.self.kinds;
}
