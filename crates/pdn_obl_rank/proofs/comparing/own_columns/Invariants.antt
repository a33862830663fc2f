use Rattle.std.proofs.Common.{◌≡◌, map}
use Rattle.std.specs.List.{range_with_len}
use Rattle.pdn_obl_rows.specs.Lists.{column_planes}
use Rattle.pdn_obl_rank.proofs.comparing.own_columns.Given as goal

abbrev pub invariant-loop-column : goal.invariant-loop-column
invariant-loop-column l = l.columns.items ≡ map (λ column. column_planes l.list.kinds column l.list.planes) (range_with_len 0 l.column)
