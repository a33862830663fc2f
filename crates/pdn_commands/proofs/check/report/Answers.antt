use Rattle.std.proofs.Common.{refl}
use Rattle.std.proofs.lemmas.Result.{err_from_is_err_and}
use Rattle.pdn_commands.specs.Checking.{query_reporting}
use Rattle.pdn_query.proofs.Walks.{halted}
use Rattle.pdn_commands.proofs.check.report.Goals as goal

pub returns-in_err-plan : goal.returns-in_err-plan
returns-in_err-plan c =
    let p = err_from_is_err_and c.from_residual.result c.from_residual.ensures.1 in
    rw (p.1, p.2) (λ w next. c.in_err-plan.ensures.came w _)

pub returns-in_err-text : goal.returns-in_err-text
returns-in_err-text c =
    let p = err_from_is_err_and c.from_residual-in_err-text.result c.from_residual-in_err-text.ensures.1 in
    rw (p.1, p.2) (λ w next. halted w (query_reporting c.args.schema.now c.args.number c.args.query.now next) _ refl)

pub returns : goal.returns
returns c = λ w next. rw (c.in_ok-text.ensures) (c.in_ok-plan.ensures.came w _)
