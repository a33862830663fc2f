use Rattle.std.proofs.Common.{◌≡◌, filter}
use Rattle.std.specs.List.{range_with_len}
use Rattle.pdn_twin.specs.Twins.{differs}
use Rattle.pdn_twin.proofs.unit_twin.differing.Given as goal

abbrev pub invariant-loop-k : goal.invariant-loop-k
invariant-loop-k l = l.places.items ≡ filter (differs l.old l.new) (range_with_len 0 l.k)
