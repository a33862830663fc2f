use Rattle.std.proofs.Common.{◌≡◌, take, map}
use Rattle.pdn_plan.specs.Names.{place}
use Rattle.pdn_plan.proofs.names.places.Given as goal

abbrev pub invariant-loop-col : goal.invariant-loop-col
invariant-loop-col l = l.out.items ≡ map (place l.scope) (take l.col-index l.cols)
