use Rattle.std.proofs.Common.{◌≡◌}
use Rattle.pdn_tree.specs.Columns.{has}
use Rattle.pdn_plan.specs.Splitting.{kept_of}
use Rattle.pdn_plan.proofs.split.kept_of.Given as goal

abbrev pub invariant-loop-column : goal.invariant-loop-column
invariant-loop-column l = l.out.items ≡ kept_of (has l.needed) l.from l.column
