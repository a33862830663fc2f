use Rattle.std.proofs.Common.{ℕ, ◌<◌, [], slice_index_or}
use Rattle.pdn_obl_rows.specs.Encoding.{RowIsOf}
use Rattle.pdn_site.proofs.holding.rows_held.Given as goal

abbrev pub invariant-loop-row : goal.invariant-loop-row
invariant-loop-row l = (i : ℕ) → i < l.row-index → RowIsOf l.kinds (slice_index_or l.row-items i [])
