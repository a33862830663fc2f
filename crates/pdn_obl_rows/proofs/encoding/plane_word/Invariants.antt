use Rattle.std.proofs.Common.{◌≡◌, ◌<◌, ◌+◌, ◌-◌, ◌^◌}
use Rattle.pdn_obl_rows.specs.Encoding.{word_of, lanes_of}
use Rattle.pdn_obl_rows.proofs.encoding.plane_word.Given as goal

abbrev pub invariant-loop-i : goal.invariant-loop-i
invariant-loop-i l = record {
  bits : l.bits ≡ word_of (lanes_of l.rows l.lanes) (l.from + (64 - l.i)) l.i;
  small : l.bits < 2 ^ l.i;
}
