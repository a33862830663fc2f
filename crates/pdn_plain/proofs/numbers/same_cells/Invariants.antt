use Rattle.std.proofs.Common.{◌≡◌, drop}
use Rattle.pdn_base.specs.Values.{cut, same_row}
use Rattle.pdn_plain.proofs.numbers.same_cells.Given as goal

abbrev pub invariant-loop-column : goal.invariant-loop-column
invariant-loop-column l = same_row (cut (drop l.column-index l.columns) l.x) (cut (drop l.column-index l.columns) l.y) ≡ same_row (cut l.columns l.x) (cut l.columns l.y)
