use Rattle.std.proofs.Common.{◌≡◌, take}
use Rattle.pdn_schema.specs.Rows.{kinds_of, column_kinds}
use Rattle.pdn_schema.proofs.valid.wrong_column.Given as goal

abbrev pub invariant-loop-i : goal.invariant-loop-i
invariant-loop-i l = take l.i (kinds_of l.values) ≡ take l.i (column_kinds l.columns)
