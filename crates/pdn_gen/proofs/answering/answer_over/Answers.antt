use Rattle.std.proofs.Common.{length, refl}
use Rattle.std.proofs.lemmas.Result.{err_from_is_err_and}
use Rattle.pdn_schema.specs.Rows.{union}
use Rattle.pdn_plan.specs.Answer.{answer}
use Rattle.pdn_query.proofs.Walks.{leads_on, leads_along, halted}
use Rattle.pdn_gen.proofs.Going.{after_units, along_over, leads_over, counted, root_is}
use Rattle.pdn_gen.proofs.answering.answer_over.Goals as goal

pub returns-in_err-prepared-clause-came : goal.returns-in_err-prepared-clause-came
returns-in_err-prepared-clause-came g c =
    let p = err_from_is_err_and c.from_residual-in_err-prepared.result c.from_residual-in_err-prepared.ensures.1 in
    let network = c.args.network.now in
    let query = c.args.query.now in
    rw (p.1, p.2) (λ next. along_over network.schema network.a network.b query c.in_ok-plan.plan.root c.in_ok-plan.ensures.root next _
    (c.in_err-prepared.ensures.came _ (after_units network.schema network.a network.b query next)))

pub returns-in_err-ticket-clause-came : goal.returns-in_err-ticket-clause-came
returns-in_err-ticket-clause-came g c =
    let p = err_from_is_err_and c.from_residual-in_err-ticket.result c.from_residual-in_err-ticket.ensures.1 in
    let network = c.args.network.now in
    let query = c.args.query.now in
    rw (p.1, p.2) (λ next. leads_along (leads_over network.schema network.a network.b query c.in_ok-plan.plan.root c.in_ok-plan.ensures.root next _
    (c.in_ok-prepared.ensures.came _ (after_units network.schema network.a network.b query next)))
    (c.in_err-ticket.ensures.came (λ ticket. next (answer network.schema (union network.a network.b) query) (length c.in_ok-prepared.prepared.units))))

pub answer_prepared-requires-clause-root : goal.answer_prepared-requires-clause-root
answer_prepared-requires-clause-root g c κs within =
    root_is c.args.network.now.schema c.args.network.now.a c.args.network.now.b c.args.query.now c.in_ok-plan.plan.root c.in_ok-prepared.prepared c.in_ok-prepared.ensures.ready c.in_ok-plan.ensures.root

pub returns-in_err-answered-clause-came : goal.returns-in_err-answered-clause-came
returns-in_err-answered-clause-came g c =
    let p = err_from_is_err_and c.from_residual-in_err-answered.result c.from_residual-in_err-answered.ensures.1 in
    let network = c.args.network.now in
    let query = c.args.query.now in
    rw (p.1, p.2) (λ next. leads_along (leads_over network.schema network.a network.b query c.in_ok-plan.plan.root c.in_ok-plan.ensures.root next _
    (c.in_ok-prepared.ensures.came _ (after_units network.schema network.a network.b query next)))
    (leads_along (c.in_ok-ticket.ensures.came (λ ticket. next (answer network.schema (union network.a network.b) query) (length c.in_ok-prepared.prepared.units))) (halted _ _ _ refl)))

pub returns-clause-came : goal.returns-clause-came
returns-clause-came g c =
    let network = c.args.network.now in
    let query = c.args.query.now in
    λ next. leads_on (leads_over network.schema network.a network.b query c.in_ok-plan.plan.root c.in_ok-plan.ensures.root next _
    (c.in_ok-prepared.ensures.came _ (after_units network.schema network.a network.b query next)))
    (counted _ _ _ network.schema network.a network.b query c.in_ok-plan.plan.root c.in_ok-prepared.prepared c.in_ok-answered.answered.rows c.units-units.result next
    c.in_ok-prepared.ensures.ready c.in_ok-answered.ensures.rows c.units-units.ensures.count
    (c.in_ok-ticket.ensures.came (λ ticket. next (answer network.schema (union network.a network.b) query) (length c.in_ok-prepared.prepared.units))))
