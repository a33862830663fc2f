use Rattle.std.proofs.Common.{◌≡◌, take, map}
use Rattle.pdn_tree.specs.Columns.{place_in}
use Rattle.pdn_plan.proofs.steps.places_in.Given as goal

abbrev pub invariant-loop-column : goal.invariant-loop-column
invariant-loop-column l = l.out.items ≡ map (place_in l.kept) (take l.column-index l.columns)
