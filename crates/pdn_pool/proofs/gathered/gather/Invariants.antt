use Rattle.std.proofs.Common.{◌≡◌, length, All, IfOk}
use Rattle.pdn_pool.specs.Results.{GivenAt}
use Rattle.pdn_pool.specs.Work.{IsWork}
use Rattle.pdn_pool.proofs.PlaceLaws.{Gathering}
use Rattle.pdn_pool.proofs.gathered.gather.Given as goal

abbrev pub invariant-loop-worked : goal.invariant-loop-worked
invariant-loop-worked g l =
    let rest = l.worked-iterator.rest.items in
    (l.joined.seat.table_id ≡ l.claims.table.shared.table_id)
    × Gathering g.J.Job.gives l.jobs (length l.fn.all.items) (length rest) l.joined.seat.me.0.weight l.joined.seat.me.0.drawn l.places.items
    × All (λ r. IfOk r (IsWork l.claims (length l.jobs))) rest
    × All (λ r. IfOk r (λ w. All (GivenAt g.J.Job.gives l.jobs) w.outs.items)) rest
