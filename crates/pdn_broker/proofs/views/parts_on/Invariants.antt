use Rattle.std.proofs.Common.{◌≡◌, ◌≤◌, map}
use Rattle.std.specs.List.{range_with_len}
use Rattle.pdn_gmw.specs.Pairs.{Run}
use Rattle.pdn_view.specs.Views.{part_of}
use Rattle.pdn_broker.specs.Views.{run_place, part_from}
use Rattle.pdn_broker.proofs.views.parts_on.Given as goal

abbrev pub invariant-loop-k : goal.invariant-loop-k
invariant-loop-k l = record {
  place : l.place ≡ run_place l.units l.k;
  below : l.place ≤ l.k;
  parts : (other : Run) → map part_of l.parts.items ≡ map (part_from l.site l.units l.runs other) (range_with_len 0 l.k);
}
