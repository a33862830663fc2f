use Rattle.std.proofs.Common.{refl}
use Rattle.std.proofs.lemmas.Result.{err_from_is_err_and}
use Rattle.pdn_base.specs.declared.status.Who.TheVariants.{Desk}
use Rattle.pdn_query.specs.Answering.{or_spent, ticketing}
use Rattle.pdn_query.proofs.Walks.{came_on, replied, faulted, spent, halted}
use Rattle.pdn_query.proofs.tickets.next_ticket.Goals as goal

pub returns-in_err-line-clause-came : goal.returns-in_err-line-clause-came
returns-in_err-line-clause-came g c =
    let p = err_from_is_err_and c.from_residual.result c.from_residual.ensures.1 in
    rw (p.1, p.2) (λ next. halted _ (ticketing next) _ refl)

pub returns-in-Ok-clause-came : goal.returns-in-Ok-clause-came
returns-in-Ok-clause-came g c = λ next. came_on _ next c.there.result (replied (or_spent next) c.in-Ok.ensures.given) (c.there.ensures.came _ next)

pub returns-in-Err-Failed-clause-came : goal.returns-in-Err-Failed-clause-came
returns-in-Err-Failed-clause-came g c = λ next. faulted (or_spent next) Desk _ refl (rw (c.in_ok-line.ensures) refl) (rw (c.in-Err-Failed.field-0-is) at c.in-Err-Failed.ensures.given)

pub returns-in-Err-Memory-clause-came : goal.returns-in-Err-Memory-clause-came
returns-in-Err-Memory-clause-came g c = λ next. spent (ticketing next) _ refl (rw (c.in-Err-Memory.field-0-is) at c.in-Err-Memory.ensures.given)
