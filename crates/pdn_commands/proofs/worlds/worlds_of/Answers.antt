use Rattle.std.proofs.Common.{refl}
use Rattle.std.proofs.lemmas.Result.{err_from_is_err_and}
use Rattle.pdn_agree.specs.Agreement.{other_tables}
use Rattle.pdn_query.proofs.Walks.{leads_along, came_on, halted}
use Rattle.pdn_commands.specs.Twinning.{given_tables, judging_worlds}
use Rattle.pdn_commands.proofs.worlds.worlds_of.Goals as goal

pub returns-in_err-first-clause-came : goal.returns-in_err-first-clause-came
returns-in_err-first-clause-came g c =
    let p = err_from_is_err_and c.from_residual-in_err-first.result c.from_residual-in_err-first.ensures.1 in
    rw (p.1, p.2) (λ next. leads_along (c.in_ok-given.ensures.came _ _) (c.in_err-first.ensures.came
    (λ first. judging_worlds c.args.site c.args.schema first (given_tables c.in_ok-given.given.items (other_tables c.args.site first)) next)))

pub returns-in_err-tables-clause-came : goal.returns-in_err-tables-clause-came
returns-in_err-tables-clause-came g c =
    let p = err_from_is_err_and c.from_residual-in_err-tables.result c.from_residual-in_err-tables.ensures.1 in
    rw (p.1, p.2) (λ next. leads_along (c.in_ok-given.ensures.came _ _) (leads_along (c.in_ok-first.ensures.came
    (λ first. judging_worlds c.args.site c.args.schema first (given_tables c.in_ok-given.given.items (other_tables c.args.site first)) next)) (halted _ _ _ refl)))

pub returns-clause-came : goal.returns-clause-came
returns-clause-came g c =
    let judges = rw (c.other.ensures) at (rw (c.deref.ensures.value) at (rw (c.in_ok-tables.ensures.are) at c.judged_worlds.ensures)) in
    λ next. came_on _ (λ worlds. next worlds) c.judged_worlds.result (c.in_ok-given.ensures.came _ _) (came_on _ (λ worlds. next worlds) c.judged_worlds.result (c.in_ok-first.ensures.came
    (λ first. judging_worlds c.args.site c.args.schema first (given_tables c.in_ok-given.given.items (other_tables c.args.site first)) next)) (judges _ next))
