use Rattle.std.proofs.lemmas.Result.{err_from_is_err_and}
use Rattle.pdn_commands.specs.Twinning.{TwoWorlds}
use Rattle.pdn_commands.proofs.AgreedWorlds.{first_stopped, second_stopped, first_units, units_on, ready_worlds}
use Rattle.pdn_commands.proofs.twin.ready_in_both.Goals as goal

pub returns-in_err-first-clause-came : goal.returns-in_err-first-clause-came
returns-in_err-first-clause-came c =
    let p = err_from_is_err_and c.from_residual.result c.from_residual.ensures.1 in
    let agree = rw (← c.worlds.view_is) at c.agreed.ensures.agree in
    let both : TwoWorlds = record { site = c.worlds.inside.site; schema = c.worlds.inside.schema; first = c.worlds.inside.first; second = c.worlds.inside.second } in
    rw (p.1, p.2, ← c.worlds.view_is) (λ w next. first_stopped both c.args.plan.now.root agree w next _ c.in_err-first.ensures)

pub returns-in_err-second-clause-came : goal.returns-in_err-second-clause-came
returns-in_err-second-clause-came c =
    let p = err_from_is_err_and c.from_residual-in_err-second.result c.from_residual-in_err-second.ensures.1 in
    let agree = rw (← c.worlds.view_is) at c.agreed.ensures.agree in
    let sound = rw (← c.worlds.view_is) at c.requires in
    let both : TwoWorlds = record { site = c.worlds.inside.site; schema = c.worlds.inside.schema; first = c.worlds.inside.first; second = c.worlds.inside.second } in
    rw (p.1, p.2, ← c.worlds.view_is) (λ w next. second_stopped both c.args.plan.now.root agree c.in_ok-first.first c.in_ok-first.ensures c.agreed.ensures.shapes sound c.is_prepared.ensures w next _ c.in_err-second.ensures)

pub returns-clause-came : goal.returns-clause-came
returns-clause-came c =
    let agree = rw (← c.worlds.view_is) at c.agreed.ensures.agree in
    let both : TwoWorlds = record { site = c.worlds.inside.site; schema = c.worlds.inside.schema; first = c.worlds.inside.first; second = c.worlds.inside.second } in
    rw (← c.worlds.view_is) (λ w next. units_on w next _ _ (first_units both c.args.plan.now.root agree c.in_ok-first.first c.in_ok-first.ensures))

pub returns-clause-ready : goal.returns-clause-ready
returns-clause-ready c =
    let agree = rw (← c.worlds.view_is) at c.agreed.ensures.agree in
    let sound = rw (← c.worlds.view_is) at c.requires in
    let both : TwoWorlds = record { site = c.worlds.inside.site; schema = c.worlds.inside.schema; first = c.worlds.inside.first; second = c.worlds.inside.second } in
    rw (← c.worlds.view_is) (ready_worlds both c.args.plan.now.root agree c.in_ok-first.first c.in_ok-first.ensures c.agreed.ensures.shapes sound c.is_prepared.ensures c.in_ok-second.second c.in_ok-second.ensures c.is_prepared-2.ensures)
