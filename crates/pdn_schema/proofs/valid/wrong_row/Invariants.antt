use Rattle.std.proofs.Common.{take}
use Rattle.std.specs.List.{All}
use Rattle.pdn_schema.specs.Rows.{HasKinds}
use Rattle.pdn_schema.proofs.valid.wrong_row.Given as goal

abbrev pub invariant-loop-i : goal.invariant-loop-i
invariant-loop-i l = All (HasKinds l.columns) (take l.i l.rows)
