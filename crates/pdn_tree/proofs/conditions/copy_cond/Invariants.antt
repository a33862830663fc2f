use Rattle.std.proofs.Common.{◌≡◌, take}
use Rattle.pdn_tree.proofs.conditions.copy_cond.Given as goal

abbrev pub invariant-loop-clause : goal.invariant-loop-clause
invariant-loop-clause l = l.all.items ≡ take l.clause-index l.cond
