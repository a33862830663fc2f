use Rattle.std.proofs.Common.{◌≡◌, ◌++◌, map, take}
use Rattle.pdn_view.specs.declared.due.Due.TheVariants.{Plain}
use Rattle.pdn_view.proofs.due.add_plain.Given as goal

abbrev pub invariant-loop-value : goal.invariant-loop-value
invariant-loop-value l = l.dues.items ≡ l.initial.dues.items ++ map (Plain l.site) (take l.value-index l.values)
