use Rattle.std.proofs.Common.{◌≤◌, length}
use Rattle.std.specs.Prelude.{slice_index}
use Rattle.std.specs.List.{range_with_len}
use Rattle.pdn_obl_rows.specs.Conditions.{and_gates}
use Rattle.pdn_obl_rank.specs.Building.{GatesThere}
use Rattle.pdn_obl_rank.proofs.Looping.{AlongEach}
use Rattle.pdn_obl_rank.proofs.limiting.cleared_plane.Given as goal

abbrev pub invariant-loop-word : goal.invariant-loop-word
invariant-loop-word l = record {
  along : AlongEach (λ w. and_gates (slice_index l.valid w) (slice_index l.plane w)) l.initial.b l.b (range_with_len 0 (length l.plane)) l.word l.words.items;
  longer : length l.initial.b.gates ≤ length l.b.gates;
  there : GatesThere (length l.b.gates) l.words.items;
}
