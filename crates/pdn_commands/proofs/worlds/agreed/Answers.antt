use Rattle.std.proofs.Common.{subst}
use Rattle.std.proofs.lemmas.Result.{err_from_is_err_and}
use Rattle.pdn_schema.specs.Rows.{AreValid}
use Rattle.pdn_agree.specs.Agreement.{Union}
use Rattle.pdn_query.proofs.Walks.{leads_along, came_on}
use Rattle.pdn_commands.proofs.AgreedWorlds.{agree_where}
use Rattle.pdn_commands.proofs.worlds.agreed.Goals as goal

pub returns-in_err-judged-2-clause-came : goal.returns-in_err-judged-2-clause-came
returns-in_err-judged-2-clause-came c =
    let p = err_from_is_err_and c.from_residual-in_err-judged-2.result c.from_residual-in_err-judged-2.ensures.1 in
    rw (p.1, p.2, ← c.first.view_is) (λ w next. leads_along (c.in_ok-judged.ensures.came w _) (c.in_err-judged-2.ensures.came w _))

pub returns-in_err-judged-3-clause-came : goal.returns-in_err-judged-3-clause-came
returns-in_err-judged-3-clause-came c =
    let p = err_from_is_err_and c.from_residual-in_err-judged-3.result c.from_residual-in_err-judged-3.ensures.1 in
    let refuses = rw (c.other_site.ensures) at c.in_err-judged-3.ensures.came in
    rw (p.1, p.2, ← c.first.view_is) (λ w next. leads_along (c.in_ok-judged.ensures.came w _) (leads_along (c.in_ok-judged-2.ensures.came w _) (refuses w _)))

pub returns-clause-came : goal.returns-clause-came
returns-clause-came c =
    let judges = rw (c.other_site.ensures) at c.in_ok-judged-3.ensures.came in
    let compares = rw (← c.first.view_is) at (rw (c.other.ensures) at c.compared.ensures.came) in
    rw (← c.first.view_is) (λ w next. came_on w _ c.compared.result (c.in_ok-judged.ensures.came w _) (came_on w _ c.compared.result (c.in_ok-judged-2.ensures.came w _) (came_on w _ c.compared.result (judges w _) (compares w _))))

pub returns-clause-agree : goal.returns-clause-agree
returns-clause-agree c =
    let same = rw (c.other.ensures) at c.compared.ensures.agree in
    agree_where c.args.schema.now c.args.site c.args.first.now c.args.tables.now c.compared.result (subst (λ (u : Union). AreValid c.args.schema.now u.a) c.first.view_is c.in_ok-judged.ensures.valid)
    (subst (λ (u : Union). AreValid c.args.schema.now u.b) c.first.view_is c.in_ok-judged-2.ensures.valid) c.in_ok-judged-3.ensures.valid same
