use Rattle.std.proofs.Common.{refl}
use Rattle.std.proofs.lemmas.Result.{err_from_is_err_and}
use Rattle.pdn_query.proofs.Gathers.{queried}
use Rattle.pdn_query.proofs.Readiness.{ready_root}
use Rattle.pdn_query.proofs.Walks.{leads_along, halted}
use Rattle.pdn_query.proofs.answer.answered_query.Goals as goal

pub returns-in_err-plan-clause-came : goal.returns-in_err-plan-clause-came
returns-in_err-plan-clause-came g c =
    let p = err_from_is_err_and c.from_residual.result c.from_residual.ensures.1 in
    rw (p.1, p.2) (λ next. c.in_err-plan.ensures.came _ _)

pub returns-in_err-prepared-clause-came : goal.returns-in_err-prepared-clause-came
returns-in_err-prepared-clause-came g c =
    let p = err_from_is_err_and c.from_residual-in_err-prepared.result c.from_residual-in_err-prepared.ensures.1 in
    rw (p.1, p.2) (λ next. leads_along (c.in_ok-plan.ensures.came _ _) (c.in_err-prepared.ensures.came _))

pub returns-in_err-ticket-clause-came : goal.returns-in_err-ticket-clause-came
returns-in_err-ticket-clause-came g c =
    let p = err_from_is_err_and c.from_residual-in_err-ticket.result c.from_residual-in_err-ticket.ensures.1 in
    rw (p.1, p.2) (λ next. leads_along (c.in_ok-plan.ensures.came _ _) (leads_along (c.in_ok-prepared.ensures.came _) (c.in_err-ticket.ensures.came _)))

pub answer_prepared-requires-clause-root : goal.answer_prepared-requires-clause-root
answer_prepared-requires-clause-root g c κs within =
    ready_root c.args.schema.now c.args.query.now c.in_ok-plan.plan c.in_ok-prepared.prepared c.in_ok-prepared.ensures.ready c.in_ok-plan.ensures.binds

pub answer_prepared-requires-clause-valid_a : goal.answer_prepared-requires-clause-valid_a
answer_prepared-requires-clause-valid_a g c κs within = c.in_ok-prepared.ensures.ready.valid_a

pub answer_prepared-requires-clause-valid_b : goal.answer_prepared-requires-clause-valid_b
answer_prepared-requires-clause-valid_b g c κs within = c.in_ok-prepared.ensures.ready.valid_b

pub returns-in_err-answered-clause-came : goal.returns-in_err-answered-clause-came
returns-in_err-answered-clause-came g c =
    let p = err_from_is_err_and c.from_residual-in_err-answered.result c.from_residual-in_err-answered.ensures.1 in
    rw (p.1, p.2) (λ next. leads_along (c.in_ok-plan.ensures.came _ _) (leads_along (c.in_ok-prepared.ensures.came _) (leads_along (c.in_ok-ticket.ensures.came _) (halted _ _ _ refl))))

pub returns-clause-came : goal.returns-clause-came
returns-clause-came g c = queried (g.D.Deal.tape c.args.crew.now.deal.now) c.args.schema.now c.args.query.now _ _ _
    c.in_ok-plan.plan c.in_ok-prepared.prepared c.in_ok-ticket.ticket c.in_ok-answered.answered.rows _
    c.in_ok-plan.ensures.came c.in_ok-prepared.ensures.came c.in_ok-ticket.ensures.came
    c.in_ok-prepared.ensures.ready.form c.in_ok-answered.ensures.rows c.in_ok-answered.ensures.views

pub returns-clause-is : goal.returns-clause-is
returns-clause-is g c = record { p = c.in_ok-prepared.prepared; ready = c.in_ok-prepared.ensures.ready; is = c.in_ok-answered.ensures.is }
