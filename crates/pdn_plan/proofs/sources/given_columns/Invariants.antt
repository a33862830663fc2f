use Rattle.std.proofs.Common.{◌≡◌, take, map}
use Rattle.pdn_plan.specs.Planning.{given_column}
use Rattle.pdn_plan.proofs.sources.given_columns.Given as goal

abbrev pub invariant-loop-column : goal.invariant-loop-column
invariant-loop-column l = l.out.items ≡ map given_column (take l.column-index l.columns)
