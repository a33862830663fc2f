use Rattle.std.proofs.Common.{◌≡◌, take}
use Rattle.std.specs.List.{flat_map}
use Rattle.pdn_plan.specs.Splitting.{cmp_columns}
use Rattle.pdn_plan.proofs.split.clause_columns.Given as goal

abbrev pub invariant-loop-cmp : goal.invariant-loop-cmp
invariant-loop-cmp l = l.out.items ≡ flat_map cmp_columns (take l.cmp-index l.clause)
