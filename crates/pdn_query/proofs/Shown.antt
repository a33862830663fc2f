-- What the parties see of a query.
use Rattle.std.proofs.Common.{◌≡◌, ℕ, Result, Ok, Err}
use Rattle.std.specs.Prelude.{IfOk}
use Rattle.pdn_broker.specs.declared.answered.Answered.{Answered}
use Rattle.pdn_broker.specs.Prepared.{PreparedModel}
use Rattle.pdn_broker.specs.Runs.{Tape}
use Rattle.pdn_broker.specs.Answered.{IsAnswered}
use Rattle.pdn_query.specs.Showing.{views_of, views_on}

module _ (p : PreparedModel) (tape : Tape) (ticket : ℕ) where
  -- the views that an answer has are those that the parties have of the query
  seen : (answered : Answered) → IsAnswered p tape ticket answered → views_of answered ≡ views_on p tape ticket
  unfolding views_on
  seen answered is = λ i. record { a = is.view_a i; b = is.view_b i; broker = is.view_broker i }

  pub seen_if : {E : Type 0} (result : Result Answered E) → IfOk result (IsAnswered p tape ticket) → IfOk result (λ answered. views_of answered ≡ views_on p tape ticket)
  seen_if (Ok answered) is = seen answered is
  seen_if (Err e) is = is
