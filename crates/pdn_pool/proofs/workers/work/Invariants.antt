use Rattle.std.proofs.Common.{◌≡◌, ◌+◌, ◌-◌, ◌≤◌, length, All, [], ◌∷◌, ◌++◌, map}
use Rattle.pdn_pool.specs.Seats.{IsSeatOf, drawn, weight}
use Rattle.pdn_pool.specs.Results.{GivenAt}
use Rattle.pdn_pool.proofs.workers.work.Given as goal

abbrev pub invariant-loop-number : goal.invariant-loop-number
invariant-loop-number g l =
    IsSeatOf l.claims l.seat
    × (weight l.seat ≡ 1)
    × (drawn l.seat ≡ map (λ p. p.0) l.outs.items ++ l.number ∷ [])
    × (length l.outs.items ≤ l.number)
    × All (GivenAt g.J.Job.gives l.jobs) l.outs.items

abbrev pub decreases-loop-number : goal.decreases-loop-number
decreases-loop-number g l = length l.jobs + 1 - length l.outs.items
