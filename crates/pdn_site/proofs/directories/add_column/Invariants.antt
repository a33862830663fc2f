use Rattle.std.proofs.Common.{◌≡◌, ◌++◌, map, take}
use Rattle.pdn_base.specs.Values.{cell}
use Rattle.pdn_site.proofs.directories.add_column.Given as goal

abbrev pub invariant-loop-row : goal.invariant-loop-row
invariant-loop-row l = l.values.items ≡ l.initial.values.items ++ map (λ row. cell row l.column) (take l.row-index l.row-items)
