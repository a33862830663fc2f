use Rattle.std.proofs.Common.{◌≡◌, take}
use Rattle.pdn_tree.specs.Columns.{clauses_at}
use Rattle.pdn_plan.specs.Splitting.{renamed}
use Rattle.pdn_plan.proofs.split.clauses_at.Given as goal

abbrev pub invariant-loop-clause : goal.invariant-loop-clause
invariant-loop-clause l = l.all.items ≡ clauses_at (renamed l.by) (take l.clause-index l.clauses)
