use Rattle.std.proofs.Common.{◌≤◌, length}
use Rattle.pdn_obl_rank.specs.Tops.{cleared_gates}
use Rattle.pdn_obl_rank.specs.Building.{PlanesThere}
use Rattle.pdn_obl_rank.proofs.Looping.{AlongEach}
use Rattle.pdn_obl_rank.proofs.limiting.cleared_planes.Given as goal

abbrev pub invariant-loop-k : goal.invariant-loop-k
invariant-loop-k l = record {
  along : AlongEach (cleared_gates l.valid) l.initial.b l.b l.planes l.k l.cleared.items;
  longer : length l.initial.b.gates ≤ length l.b.gates;
  there : PlanesThere (length l.b.gates) l.cleared.items;
}
