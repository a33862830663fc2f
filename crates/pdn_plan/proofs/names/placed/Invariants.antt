use Rattle.std.proofs.Common.{◌≡◌, take, map}
use Rattle.pdn_plan.specs.Names.{placed_clause}
use Rattle.pdn_plan.proofs.names.placed.Given as goal

abbrev pub invariant-loop-clause : goal.invariant-loop-clause
invariant-loop-clause l = l.all.items ≡ map (placed_clause l.scope) (take l.clause-index l.clauses)
