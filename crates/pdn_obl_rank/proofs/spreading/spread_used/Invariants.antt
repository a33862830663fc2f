use Rattle.std.proofs.Common.{◌≤◌, length, []}
use Rattle.std.proofs.Common.{nat_eq, slice_index_or}
use Rattle.std.specs.List.{range_with_len, list_any}
use Rattle.pdn_obl_rank.specs.Keys.{spread_column}
use Rattle.pdn_obl_rank.specs.Building.{PlanesThere}
use Rattle.pdn_obl_rank.proofs.Looping.{AlongEach}
use Rattle.pdn_obl_rank.proofs.spreading.spread_used.Given as goal

abbrev pub invariant-loop-place : goal.invariant-loop-place
invariant-loop-place l = record {
  along : AlongEach (λ place. spread_column (list_any (nat_eq place) l.used) (slice_index_or l.columns place []) l.row) l.initial.b l.b (range_with_len 0 (length l.columns)) l.place l.lanes.items;
  longer : length l.initial.b.gates ≤ length l.b.gates;
  there : PlanesThere (length l.b.gates) l.lanes.items;
}
