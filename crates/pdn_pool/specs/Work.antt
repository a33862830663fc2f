-- What a worker did.
use Rattle.std.specs.Prelude.{◌≡◌, ℕ, ◌≤◌, [], ◌∷◌, ◌++◌, map}
use Rattle.pdn_pool.specs.declared.claims.Claims.{Claims}
use Rattle.pdn_pool.specs.declared.workers.Worked.{Worked}
use Rattle.pdn_pool.specs.Seats.{IsSeatOf, drawn, weight}

-- it has a result for each number that it drew but the last, and the last is past all jobs
pub record IsWork {X : Type 0} (claims : Claims) (jobs : ℕ) (w : Worked X) : Type 0 where
  pub own : IsSeatOf claims w.seat
  pub part : weight w.seat ≡ 1
  pub drew : drawn w.seat ≡ map (λ p. p.0) w.outs.items ++ w.last ∷ []
  pub ended : jobs ≤ w.last
