use Rattle.std.proofs.Common.{◌≡◌, ◌++◌, map, All, IsSome, Some}
use Rattle.pdn_pool.proofs.places.results.Given as goal

abbrev pub invariant-loop-place : goal.invariant-loop-place
invariant-loop-place g l =
    (map Some l.outs.items ++ l.place-iterator.rest.items ≡ l.fn.places.items)
    × All IsSome l.place-iterator.rest.items
