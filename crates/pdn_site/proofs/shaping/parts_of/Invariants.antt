use Rattle.std.proofs.Common.{◌≡◌, map, take}
use Rattle.pdn_site.specs.Budget.{unit_part}
use Rattle.pdn_site.proofs.shaping.parts_of.Given as goal

abbrev pub invariant-loop-unit : goal.invariant-loop-unit
invariant-loop-unit l = l.parts.items ≡ map unit_part (take l.unit-index l.units)
