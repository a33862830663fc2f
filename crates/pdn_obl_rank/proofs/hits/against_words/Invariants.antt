use Rattle.std.proofs.Common.{◌≤◌, length, []}
use Rattle.std.proofs.Common.{slice_index_or}
use Rattle.std.specs.List.{range_with_len}
use Rattle.pdn_obl_rank.specs.Numbers.{against_gates}
use Rattle.pdn_obl_rank.specs.Building.{PlanesThere}
use Rattle.pdn_obl_rank.proofs.Looping.{AlongEach}
use Rattle.pdn_obl_rank.proofs.hits.against_words.Given as goal

abbrev pub invariant-loop-word : goal.invariant-loop-word
invariant-loop-word l = record {
  along : AlongEach (λ w. against_gates l.compared l.lanes.valid l.lanes.part l.lanes.key l.row w (slice_index_or l.counters w [])) l.initial.b l.b (range_with_len 0 (length l.counters)) l.word l.more.items;
  longer : length l.initial.b.gates ≤ length l.b.gates;
  there : PlanesThere (length l.b.gates) l.more.items;
}
