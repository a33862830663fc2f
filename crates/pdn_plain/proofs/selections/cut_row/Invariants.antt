use Rattle.std.proofs.Common.{◌≡◌, take}
use Rattle.pdn_base.specs.Values.{cut}
use Rattle.pdn_plain.proofs.selections.cut_row.Given as goal

abbrev pub invariant-loop-column : goal.invariant-loop-column
invariant-loop-column l = l.values.items ≡ cut (take l.column-index l.columns) l.row
