use Rattle.std.proofs.Common.{◌≡◌, take}
use Rattle.pdn_plan.specs.Splitting.{left_by}
use Rattle.pdn_plan.proofs.split.left_by.Given as goal

abbrev pub invariant-loop-clause : goal.invariant-loop-clause
invariant-loop-clause l = l.all.items ≡ left_by l.from l.width (take l.clause-index l.asked)
