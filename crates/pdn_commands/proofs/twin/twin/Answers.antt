use Rattle.std.proofs.lemmas.Result.{err_from_is_err_and}
use Rattle.pdn_query.proofs.Walks.{leads_along}
use Rattle.pdn_commands.specs.Twinning.{twins_script}
use Rattle.pdn_commands.proofs.twin.twin.Goals as goal

pub returns-in_err-inputs-clause-goes : goal.returns-in_err-inputs-clause-goes
returns-in_err-inputs-clause-goes g c =
    let p = err_from_is_err_and c.from_residual.result c.from_residual.ensures.1 in
    rw (p.1, p.2) (λ views keeps. c.in_err-inputs.ensures.came _)

pub returns-in_err-texts-clause-goes : goal.returns-in_err-texts-clause-goes
returns-in_err-texts-clause-goes g c =
    let p = err_from_is_err_and c.from_residual-in_err-texts.result c.from_residual-in_err-texts.ensures.1 in
    rw (p.1, p.2) (λ views keeps. leads_along (c.in_ok-inputs.ensures.came _) (c.in_err-texts.ensures.came _))

pub returns-in_err-queries-clause-goes : goal.returns-in_err-queries-clause-goes
returns-in_err-queries-clause-goes g c =
    let p = err_from_is_err_and c.from_residual-in_err-queries.result c.from_residual-in_err-queries.ensures.1 in
    let refuses = rw (c.deref.ensures.value) at c.in_err-queries.ensures.came in
    rw (p.1, p.2) (λ views keeps. leads_along (c.in_ok-inputs.ensures.came _) (leads_along (c.in_ok-texts.ensures.came _) (refuses _ _)))

pub returns-in_err-worlds-clause-goes : goal.returns-in_err-worlds-clause-goes
returns-in_err-worlds-clause-goes g c =
    let p = err_from_is_err_and c.from_residual-in_err-worlds.result c.from_residual-in_err-worlds.ensures.1 in
    let says = rw (c.deref.ensures.value) at c.in_ok-queries.ensures.came in
    let refuses = rw (c.deref-3.ensures.value) at c.in_err-worlds.ensures.came in
    rw (p.1, p.2) (λ views keeps. leads_along (c.in_ok-inputs.ensures.came _) (leads_along (c.in_ok-texts.ensures.came _) (leads_along (says _ _) (refuses (λ w. twins_script views (g.D.Deal.tape c.args.crew.now.deal.now) w 1 c.in_ok-queries.queries.items)))))

pub returns-clause-goes : goal.returns-clause-goes
returns-clause-goes g c =
    let says = rw (c.deref.ensures.value) at c.in_ok-queries.ensures.came in
    let gives = rw (c.deref-3.ensures.value) at c.in_ok-worlds.ensures.came in
    let goes = rw (c.deref-4.ensures.value) at c.twin_all.ensures.goes in
    λ views keeps. leads_along (c.in_ok-inputs.ensures.came _) (leads_along (c.in_ok-texts.ensures.came _) (leads_along (says _ _) (leads_along (gives (λ w. twins_script views (g.D.Deal.tape c.args.crew.now.deal.now) w 1 c.in_ok-queries.queries.items)) (goes views keeps))))
