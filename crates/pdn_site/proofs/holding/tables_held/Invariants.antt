use Rattle.std.proofs.Common.{ℕ, ◌<◌, [], slice_index_or}
use Rattle.pdn_site.proofs.HoldingLaws.{AreKnown}
use Rattle.pdn_site.proofs.holding.tables_held.Given as goal

abbrev pub invariant-loop-rows : goal.invariant-loop-rows
invariant-loop-rows l = (t : ℕ) → t < l.rows-index → AreKnown (slice_index_or l.rows-items t [])
