use Rattle.std.proofs.Common.{◌≡◌, ◌++◌}
use Rattle.pdn_obl_rows.specs.Operators.{row_picks}
use Rattle.pdn_obl_rows.proofs.appending.push_rows.Given as goal

abbrev pub invariant-loop-row : goal.invariant-loop-row
invariant-loop-row l = l.picks.items ≡ l.fn.picks.items ++ row_picks l.list l.row l.plane
