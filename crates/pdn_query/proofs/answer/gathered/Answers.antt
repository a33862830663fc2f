use Rattle.std.proofs.lemmas.Result.{err_from_is_err_and}
use Rattle.pdn_query.proofs.Gathers.{gathered}
use Rattle.pdn_query.proofs.Readiness.{where_ready}
use Rattle.pdn_query.proofs.Walks.{leads_along, came_on}
use Rattle.pdn_query.proofs.answer.gathered.Goals as goal

pub returns-in_err-a-clause-came : goal.returns-in_err-a-clause-came
returns-in_err-a-clause-came g c =
    let p = err_from_is_err_and c.from_residual.result c.from_residual.ensures.1 in
    rw (p.1, p.2) (λ next. c.in_err-a.ensures.came _)

pub returns-in_err-b-clause-came : goal.returns-in_err-b-clause-came
returns-in_err-b-clause-came g c =
    let p = err_from_is_err_and c.from_residual-in_err-b.result c.from_residual-in_err-b.ensures.1 in
    rw (p.1, p.2) (λ next. leads_along (c.in_ok-a.ensures.came _) (c.in_err-b.ensures.came _))

pub returns-clause-came : goal.returns-clause-came
returns-clause-came g c = λ next. came_on _ (λ p. next p.a.tables p.b.tables p.units) c.ready.result (c.in_ok-a.ensures.came _) (came_on _ (λ p. next p.a.tables p.b.tables p.units) c.ready.result (c.in_ok-b.ensures.came _)
    (gathered _ c.args.schema.now c.args.plan.now.root c.in_ok-a.a c.in_ok-b.b next c.ready.result c.in_ok-a.ensures.count c.in_ok-b.ensures.count c.ready.ensures))

pub returns-clause-ready : goal.returns-clause-ready
returns-clause-ready g c = where_ready c.args.schema.now c.args.plan.now.root c.in_ok-a.a c.in_ok-b.b c.ready.result c.ready.ensures
