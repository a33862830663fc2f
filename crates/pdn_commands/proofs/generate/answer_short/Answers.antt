use Rattle.std.proofs.Common.{refl}
use Rattle.std.proofs.lemmas.Result.{err_from_is_err_and}
use Rattle.pdn_gen.specs.Gen.{short_text}
use Rattle.pdn_query.specs.Script.{Say}
use Rattle.pdn_query.proofs.Walks.{came_on, leads_along, halted}
use Rattle.pdn_commands.proofs.generate.answer_short.Goals as goal

pub returns-in_err-counted-clause-came : goal.returns-in_err-counted-clause-came
returns-in_err-counted-clause-came g c =
    let p = err_from_is_err_and c.from_residual.result c.from_residual.ensures.1 in
    let asked = c.args.asked in
    rw (p.1, p.2) (λ rest. c.in_err-counted.ensures.came (λ rows units. Say (short_text asked.size.seed asked.size.patients asked.number rows units) rest))

pub returns-in_err-text-clause-came : goal.returns-in_err-text-clause-came
returns-in_err-text-clause-came g c =
    let p = err_from_is_err_and c.from_residual-in_err-text.result c.from_residual-in_err-text.ensures.1 in
    let asked = c.args.asked in
    rw (p.1, p.2) (λ rest. leads_along (c.in_ok-counted.ensures.came (λ rows units. Say (short_text asked.size.seed asked.size.patients asked.number rows units) rest)) (halted _ _ _ refl))

pub returns-clause-came : goal.returns-clause-came
returns-clause-came g c =
    let asked = c.args.asked in
    let says = rw (c.deref.ensures.value, c.in_ok-text.ensures, c.as_slice-rows.ensures) at c.say.ensures.came in
    λ rest. came_on _ (λ _. rest) c.say.result (c.in_ok-counted.ensures.came (λ rows units. Say (short_text asked.size.seed asked.size.patients asked.number rows units) rest)) (says rest)
