use Rattle.std.proofs.lemmas.Result.{err_from_is_err_and}
use Rattle.pdn_query.proofs.Walks.{leads_on, leads_along}
use Rattle.pdn_commands.proofs.inputs.read_inputs.Goals as goal

pub returns-in_err-net-clause-came : goal.returns-in_err-net-clause-came
returns-in_err-net-clause-came g c =
    let p = err_from_is_err_and c.from_residual.result c.from_residual.ensures.1 in
    rw (p.1, p.2) (λ next. c.in_err-net.ensures.came _)

pub returns-in_err-text-clause-came : goal.returns-in_err-text-clause-came
returns-in_err-text-clause-came g c =
    let p = err_from_is_err_and c.from_residual-in_err-text.result c.from_residual-in_err-text.ensures.1 in
    rw (p.1, p.2) (λ next. leads_along (c.in_ok-net.ensures.came _) (c.in_err-text.ensures.came _))

pub returns-in_err-schema-clause-came : goal.returns-in_err-schema-clause-came
returns-in_err-schema-clause-came g c =
    let p = err_from_is_err_and c.from_residual-in_err-schema.result c.from_residual-in_err-schema.ensures.1 in
    let refuses = rw (c.deref.ensures.value) at c.in_err-schema.ensures in
    rw (p.1, p.2) (λ next. leads_along (c.in_ok-net.ensures.came _) (leads_along (c.in_ok-text.ensures.came _) (refuses _ _)))

pub returns-clause-came : goal.returns-clause-came
returns-clause-came g c =
    let says = rw (c.deref.ensures.value) at c.in_ok-schema.ensures in
    λ next. leads_on (c.in_ok-net.ensures.came _) (leads_on (c.in_ok-text.ensures.came _) (says _ _))
