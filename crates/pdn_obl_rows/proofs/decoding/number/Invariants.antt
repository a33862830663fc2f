use Rattle.std.proofs.Common.{◌≡◌, ◌+◌, ◌-◌, ◌<◌, ◌^◌}
use Rattle.pdn_obl_rows.specs.Encoding.{word_of}
use Rattle.pdn_obl_rows.proofs.DecodingLaws.{lane_of_plane}
use Rattle.pdn_obl_rows.proofs.decoding.number.Given as goal

abbrev pub invariant-loop-i : goal.invariant-loop-i
invariant-loop-i l = record {
  bits : l.number ≡ word_of (lane_of_plane l.words l.step l.row) (l.first + (l.width - l.i)) l.i;
  small : l.number < 2 ^ l.i;
}
