use Rattle.std.proofs.Common.{◌≡◌, ◌++◌, drop}
use Rattle.pdn_keeper.specs.Batches.{kept_rows}
use Rattle.pdn_keeper.proofs.mem_site.rows_of.Given as goal

abbrev pub invariant-loop-batch : goal.invariant-loop-batch
invariant-loop-batch l = l.rows.items ++ kept_rows l.name (drop l.batch-index l.batches) ≡ kept_rows l.name l.batches
