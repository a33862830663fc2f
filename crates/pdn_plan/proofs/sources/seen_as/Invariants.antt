use Rattle.std.proofs.Common.{◌≡◌, take}
use Rattle.pdn_plan.specs.Planning.{seen_as}
use Rattle.pdn_plan.proofs.sources.seen_as.Given as goal

abbrev pub invariant-loop-column : goal.invariant-loop-column
invariant-loop-column l = l.out.items ≡ seen_as l.alias (take l.column-index l.columns)
