use Rattle.std.proofs.Common.{◌≡◌, ◌++◌, drop}
use Rattle.pdn_store.specs.Cells.{row_bytes}
use Rattle.pdn_store.proofs.cells.bytes_of.Given as goal

abbrev pub invariant-loop-value : goal.invariant-loop-value
invariant-loop-value l = l.bytes.items ++ row_bytes (drop l.value-index l.values) ≡ row_bytes l.values
