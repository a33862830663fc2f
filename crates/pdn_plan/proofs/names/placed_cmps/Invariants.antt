use Rattle.std.proofs.Common.{◌≡◌, take, map}
use Rattle.pdn_plan.specs.Names.{placed_cmp}
use Rattle.pdn_plan.proofs.names.placed_cmps.Given as goal

abbrev pub invariant-loop-cmp : goal.invariant-loop-cmp
invariant-loop-cmp l = l.out.items ≡ map (placed_cmp l.scope) (take l.cmp-index l.cmps)
