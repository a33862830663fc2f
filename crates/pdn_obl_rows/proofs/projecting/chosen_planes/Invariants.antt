use Rattle.std.proofs.Common.{◌≡◌, take}
use Rattle.std.specs.List.{flat_map}
use Rattle.pdn_obl_rows.specs.Lists.{column_planes}
use Rattle.pdn_obl_rows.proofs.projecting.chosen_planes.Given as goal

abbrev pub invariant-loop-k : goal.invariant-loop-k
invariant-loop-k l = l.chosen.items ≡ flat_map (λ column. column_planes l.list.kinds column l.list.planes) (take l.k l.columns)
