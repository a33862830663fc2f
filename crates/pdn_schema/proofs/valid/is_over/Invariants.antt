use Rattle.std.proofs.Common.{ℕ, ◌≤◌, ◌<◌, get_or, []}
use Rattle.pdn_base.specs.Values.{number_of, cell}
use Rattle.pdn_schema.specs.Rows.{standing}
use Rattle.pdn_schema.proofs.valid.is_over.Given as goal

abbrev pub invariant-loop-row : goal.invariant-loop-row
invariant-loop-row l = (k : ℕ) → k < l.row-index → standing l.column (number_of (cell (get_or l.rows k []) l.column)) l.rows ≤ l.per
