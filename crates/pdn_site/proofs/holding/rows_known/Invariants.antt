use Rattle.std.proofs.Common.{ℕ, ◌<◌, [], slice_index_or}
use Rattle.pdn_schema.specs.Rows.{kinds_of}
use Rattle.pdn_obl_rows.specs.Encoding.{RowIsOf}
use Rattle.pdn_site.proofs.holding.rows_known.Given as goal

abbrev pub invariant-loop-row : goal.invariant-loop-row
invariant-loop-row l = (i : ℕ) → i < l.row-index → RowIsOf (kinds_of (slice_index_or l.row-items i [])) (slice_index_or l.row-items i [])
