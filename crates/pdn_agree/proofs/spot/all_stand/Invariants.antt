use Rattle.std.proofs.Common.{◌≡◌, drop}
use Rattle.pdn_agree.specs.Columns.{column_values, all_stand}
use Rattle.pdn_agree.proofs.spot.all_stand.Given as goal

abbrev pub invariant-loop-row : goal.invariant-loop-row
invariant-loop-row l = all_stand (column_values (drop l.row-index l.rows) l.column) (column_values l.others l.column) ≡ all_stand (column_values l.rows l.column) (column_values l.others l.column)
