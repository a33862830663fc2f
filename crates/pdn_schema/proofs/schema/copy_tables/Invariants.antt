use Rattle.std.proofs.Common.{◌≡◌, take}
use Rattle.pdn_schema.proofs.schema.copy_tables.Given as goal

abbrev pub invariant-loop-t : goal.invariant-loop-t
invariant-loop-t l = l.copies.items ≡ take l.t-index l.tables
