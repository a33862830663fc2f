use Rattle.std.proofs.Common.{◌≡◌, take}
use Rattle.pdn_base.proofs.row.copy_lists.Given as goal

abbrev pub invariant-loop-rows : goal.invariant-loop-rows
invariant-loop-rows l = l.copies.items ≡ take l.rows-index l.lists
