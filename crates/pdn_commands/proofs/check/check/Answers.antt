use Rattle.std.proofs.Common.{refl, rules}
use Rattle.std.proofs.lemmas.Result.{err_from_is_err_and}
use Rattle.pdn_query.proofs.Walks.{leads_along, came_end, halted}
use Rattle.pdn_commands.proofs.check.check.Goals as goal

pub returns-in_err-inputs-clause-goes : goal.returns-in_err-inputs-clause-goes
returns-in_err-inputs-clause-goes g c =
    let p = err_from_is_err_and c.from_residual.result c.from_residual.ensures.1 in
    rw (p.1, p.2) (c.in_err-inputs.ensures.came _)

pub returns-in_err-queries-clause-goes : goal.returns-in_err-queries-clause-goes
returns-in_err-queries-clause-goes g c =
    let p = err_from_is_err_and c.from_residual-in_err-queries.result c.from_residual-in_err-queries.ensures.1 in
    let refuses = rw (c.deref.ensures.value) at c.in_err-queries.ensures.came in
    rw (p.1, p.2) (leads_along (c.in_ok-inputs.ensures.came _) (refuses _ _))

pub returns-in_err-lines-clause-goes : goal.returns-in_err-lines-clause-goes
returns-in_err-lines-clause-goes g c =
    let p = err_from_is_err_and c.from_residual-in_err-lines.result c.from_residual-in_err-lines.ensures.1 in
    let says = rw (c.deref.ensures.value) at c.in_ok-queries.ensures.came in
    let refuses = rw (c.deref-2.ensures.value) at c.in_err-lines.ensures in
    rw (p.1, p.2) (leads_along (c.in_ok-inputs.ensures.came _) (leads_along (says _ _) (refuses _ _)))

pub returns-in_err-text-clause-goes : goal.returns-in_err-text-clause-goes
returns-in_err-text-clause-goes g c =
    let p = err_from_is_err_and c.from_residual-in_err-text.result c.from_residual-in_err-text.ensures.1 in
    rw (p.1, p.2) (leads_along (c.in_ok-inputs.ensures.came _) (halted _ _ _ refl))

pub returns-in_err-append-clause-goes : goal.returns-in_err-append-clause-goes
returns-in_err-append-clause-goes g c =
    let p = err_from_is_err_and c.from_residual-in_err-append.result c.from_residual-in_err-append.ensures.1 in
    rw (p.1, p.2) (leads_along (c.in_ok-inputs.ensures.came _) (halted _ _ _ refl))

pub returns-clause-goes : goal.returns-clause-goes
returns-clause-goes g c =
    let says = rw (c.deref.ensures.value) at c.in_ok-queries.ensures.came in
    let reports = rw (c.deref-2.ensures.value) at c.in_ok-lines.ensures in
    leads_along (c.in_ok-inputs.ensures.came _) (leads_along (says _ _) (leads_along (reports _ _) (came_end _ c.say.result (c.say.ensures.came _) (search rules))))
