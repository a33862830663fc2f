use Rattle.std.proofs.Common.{◌≡◌, take, map}
use Rattle.pdn_tree.specs.Columns.{cmp_at}
use Rattle.pdn_plan.specs.Splitting.{renamed}
use Rattle.pdn_plan.proofs.split.clause_at.Given as goal

abbrev pub invariant-loop-cmp : goal.invariant-loop-cmp
invariant-loop-cmp l = l.any.items ≡ map (cmp_at (renamed l.by)) (take l.cmp-index l.clause)
