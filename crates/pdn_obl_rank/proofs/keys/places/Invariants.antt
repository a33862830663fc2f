use Rattle.std.proofs.Common.{◌≡◌, map, take}
use Rattle.pdn_obl_rank.specs.Keys.{place_of_key}
use Rattle.pdn_obl_rank.proofs.keys.places.Given as goal

abbrev pub invariant-loop-k : goal.invariant-loop-k
invariant-loop-k l = l.places.items ≡ map (place_of_key l.columns l.order) (take l.k l.keys)
