use Rattle.std.proofs.Common.{◌≡◌, take, filter}
use Rattle.pdn_plan.specs.Splitting.{clause_passes, is_of}
use Rattle.pdn_plan.proofs.split.mine.Given as goal

abbrev pub invariant-loop-clause : goal.invariant-loop-clause
invariant-loop-clause l = l.all.items ≡ filter (clause_passes (is_of l.from l.width)) (take l.clause-index l.asked)
