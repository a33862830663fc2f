use Rattle.std.proofs.Common.{◌≡◌, take, map}
use Rattle.pdn_tree.specs.Columns.{place_in}
use Rattle.pdn_plan.specs.Steps.{key_at}
use Rattle.pdn_plan.proofs.steps.keys_in.Given as goal

abbrev pub invariant-loop-key : goal.invariant-loop-key
invariant-loop-key l = l.out.items ≡ map (key_at (place_in l.kept)) (take l.key-index l.order)
