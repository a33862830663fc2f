use Rattle.std.proofs.Common.{◌≡◌, filter}
use Rattle.std.specs.List.{range_with_len}
use Rattle.pdn_tree.specs.Columns.{has}
use Rattle.pdn_plan.proofs.split.needed_below.Given as goal

abbrev pub invariant-loop-column : goal.invariant-loop-column
invariant-loop-column l = l.out.items ≡ filter (has l.needed) (range_with_len 0 l.column)
