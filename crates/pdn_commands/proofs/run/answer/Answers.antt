use Rattle.std.proofs.lemmas.Result.{err_from_is_err_and}
use Rattle.pdn_query.specs.Script.{Say}
use Rattle.pdn_query.proofs.Walks.{came_on}
use Rattle.pdn_commands.proofs.run.answer.Goals as goal

pub returns-in_err-text-clause-came : goal.returns-in_err-text-clause-came
returns-in_err-text-clause-came g c =
    let p = err_from_is_err_and c.from_residual.result c.from_residual.ensures.1 in
    rw (p.1, p.2) (λ rest. c.in_err-text.ensures.came (λ text. Say text rest))

pub returns-clause-came : goal.returns-clause-came
returns-clause-came g c =
    let says = rw (c.deref.ensures.value) at c.say.ensures.came in
    λ rest. came_on _ (λ _. rest) c.say.result (c.in_ok-text.ensures.came (λ text. Say text rest)) (says rest)
