use Rattle.std.proofs.Common.{◌≡◌, ◌++◌, take}
use Rattle.pdn_tree.specs.Columns.{shifted}
use Rattle.pdn_plan.proofs.split.with_shifted.Given as goal

abbrev pub invariant-loop-column : goal.invariant-loop-column
invariant-loop-column l = l.out.items ≡ l.initial.out.items ++ shifted l.from (take l.column-index l.keep)
