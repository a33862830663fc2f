use Rattle.std.proofs.Common.{◌≡◌, take}
use Rattle.pdn_base.specs.Operators.{project_rows}
use Rattle.pdn_plain.proofs.selections.project.Given as goal

abbrev pub invariant-loop-row : goal.invariant-loop-row
invariant-loop-row l = l.cuts.items ≡ project_rows l.columns (take l.row-index l.rows)
