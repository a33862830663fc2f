use Rattle.std.proofs.Common.{◌≡◌, ◌<◌, length, All}
use Rattle.pdn_pool.specs.Results.{placed}
use Rattle.pdn_pool.proofs.places.place.Given as goal

abbrev pub invariant-loop-number : goal.invariant-loop-number
invariant-loop-number g l =
    (placed l.places.items l.number-iterator.rest.items ≡ placed l.fn.places.items l.fn.outs.items)
    × (length l.places.items ≡ length l.fn.places.items)
    × All (λ p. p.0 < length l.fn.places.items) l.number-iterator.rest.items
