use Rattle.std.proofs.Common.{◌≡◌, take}
use Rattle.pdn_plan.specs.Splitting.{clauses_columns}
use Rattle.pdn_plan.proofs.split.clauses_columns.Given as goal

abbrev pub invariant-loop-clause : goal.invariant-loop-clause
invariant-loop-clause l = l.out.items ≡ clauses_columns (take l.clause-index l.clauses)
