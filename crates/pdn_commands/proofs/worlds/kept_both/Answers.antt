use Rattle.std.proofs.lemmas.Result.{err_from_is_err_and}
use Rattle.pdn_query.proofs.Walks.{leads_on, leads_along}
use Rattle.pdn_commands.proofs.worlds.kept_both.Goals as goal

pub returns-in_err-b-clause-came : goal.returns-in_err-b-clause-came
returns-in_err-b-clause-came g c =
    let p = err_from_is_err_and c.from_residual-in_err-b.result c.from_residual-in_err-b.ensures.1 in
    rw (p.1, p.2) (λ next. leads_along (c.in_ok-a.ensures.came _) (c.in_err-b.ensures.came _))

pub returns-clause-came : goal.returns-clause-came
returns-clause-came g c = λ next. leads_on (c.in_ok-a.ensures.came _) (c.in_ok-b.ensures.came _)
