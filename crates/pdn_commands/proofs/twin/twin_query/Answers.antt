use Rattle.std.proofs.Common.{ℕ, List, refl, ◌∙◌}
use Rattle.std.proofs.lemmas.Result.{err_from_is_err_and}
use Rattle.pdn_query.proofs.Walks.{leads_along, came_on, halted}
use Rattle.pdn_broker.specs.Runs.{Tape}
use Rattle.pdn_twin.specs.Twins.{TwinWords}
use Rattle.pdn_commands.specs.Twinning.{TwoWorlds, twin_text, twin_words}
use Rattle.pdn_commands.proofs.AgreedWorlds.{twin_printed, came_same}
use Rattle.pdn_commands.proofs.twin.twin_query.Goals as goal

pub returns-in_err-plan-clause-came : goal.returns-in_err-plan-clause-came
returns-in_err-plan-clause-came g c =
    let p = err_from_is_err_and c.from_residual.result c.from_residual.ensures.1 in
    rw (p.1, p.2, ← c.worlds.view_is) (λ views keeps rest. c.in_err-plan.ensures.came _ _)

pub returns-in_err-both-clause-came : goal.returns-in_err-both-clause-came
returns-in_err-both-clause-came g c =
    let p = err_from_is_err_and c.from_residual-in_err-both.result c.from_residual-in_err-both.ensures.1 in
    rw (p.1, p.2, ← c.worlds.view_is) (λ views keeps rest. leads_along (c.in_ok-plan.ensures.came _ _) ((rw (← c.worlds.view_is) at c.in_err-both.ensures.came) _ _))

pub returns-in_err-ticket-clause-came : goal.returns-in_err-ticket-clause-came
returns-in_err-ticket-clause-came g c =
    let p = err_from_is_err_and c.from_residual-in_err-ticket.result c.from_residual-in_err-ticket.ensures.1 in
    rw (p.1, p.2, ← c.worlds.view_is) (λ views keeps rest. leads_along (c.in_ok-plan.ensures.came _ _) (leads_along ((rw (← c.worlds.view_is) at c.in_ok-both.ensures.came) _ _) (c.in_err-ticket.ensures.came _)))

pub returns-in_err-text-clause-came : goal.returns-in_err-text-clause-came
returns-in_err-text-clause-came g c =
    let p = err_from_is_err_and c.from_residual-in_err-text.result c.from_residual-in_err-text.ensures.1 in
    rw (p.1, p.2, ← c.worlds.view_is) (λ views keeps rest. leads_along (c.in_ok-plan.ensures.came _ _) (leads_along ((rw (← c.worlds.view_is) at c.in_ok-both.ensures.came) _ _) (leads_along (c.in_ok-ticket.ensures.came _) (halted _ _ _ refl))))

pub returns-clause-came : goal.returns-clause-came
returns-clause-came g c =
    let both = rw (← c.worlds.view_is) at c.in_ok-both.ensures.came in
    let ready = rw (← c.worlds.view_is) at c.in_ok-both.ensures.ready in
    let tape : Tape = g.D.Deal.tape c.args.crew.now.deal.now in
    let w : TwoWorlds = record { site = c.worlds.inside.site; schema = c.worlds.inside.schema; first = c.worlds.inside.first; second = c.worlds.inside.second } in
    let said : (TwinWords → TwinWords) → List ℕ = λ views. twin_text w.site c.args.number c.in_ok-ticket.ticket (views (twin_words tape w c.in_ok-plan.plan.root c.in_ok-both.both.first.units c.in_ok-ticket.ticket)) in
    rw (← c.worlds.view_is) (λ views keeps rest. came_on _ (λ _. rest) c.say.result (c.in_ok-plan.ensures.came _ _) (came_on _ (λ _. rest) c.say.result (both _ _) (came_on _ (λ _. rest) c.say.result (c.in_ok-ticket.ensures.came _)
    (came_same _ _ _ (said views) rest c.say.result (c.deref.ensures.value ∙ c.in_ok-text.ensures.is ∙ twin_printed views keeps w c.in_ok-plan.plan.root c.in_ok-both.both ready tape c.args.number c.in_ok-ticket.ticket c.in_ok-text.ensures.equal)
    (c.say.ensures.came rest)))))
