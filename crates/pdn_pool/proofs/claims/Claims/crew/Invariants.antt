use Rattle.std.proofs.Common.{◌≡◌, ◌+◌, length, All}
use Rattle.pdn_pool.specs.Seats.{weight, IsFresh}
use Rattle.pdn_pool.proofs.claims.Claims.crew.Given as goal

abbrev pub invariant-loop : goal.invariant-loop
invariant-loop l =
    IsFresh l.claims l.first
    × (weight l.first + l.counter ≡ 65535)
    × (length l.seats.items ≡ l.counter)
    × All (IsFresh l.claims) l.seats.items
    × All (λ s. weight s ≡ 1) l.seats.items
