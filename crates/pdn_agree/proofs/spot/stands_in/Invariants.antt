use Rattle.std.proofs.Common.{◌≡◌, drop}
use Rattle.pdn_site.specs.Directories.{stands_in}
use Rattle.pdn_agree.specs.Columns.{column_values}
use Rattle.pdn_agree.proofs.spot.stands_in.Given as goal

abbrev pub invariant-loop-row : goal.invariant-loop-row
invariant-loop-row l = stands_in (column_values (drop l.row-index l.rows) l.column) l.value ≡ stands_in (column_values l.rows l.column) l.value
