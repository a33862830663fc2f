use Rattle.std.proofs.Common.{refl}
use Rattle.std.proofs.lemmas.Result.{err_from_is_err_and}
use Rattle.pdn_query.proofs.Walks.{halted}
use Rattle.pdn_commands.specs.Twinning.{judging_worlds}
use Rattle.pdn_commands.proofs.worlds.judged_worlds.Goals as goal

pub returns-in_err-agreed : goal.returns-in_err-agreed
returns-in_err-agreed c =
    let p = err_from_is_err_and c.from_residual.result c.from_residual.ensures.1 in
    rw (p.1, p.2) (λ w next. c.in_err-agreed.ensures.came w next)

pub returns-in_err-second : goal.returns-in_err-second
returns-in_err-second c =
    let p = err_from_is_err_and c.from_residual-in_err-second.result c.from_residual-in_err-second.ensures.1 in
    rw (p.1, p.2) (λ w next. halted w (judging_worlds c.args.site c.args.schema c.args.first c.args.tables next) _ refl)

pub returns : goal.returns
returns c = λ w next. rw (c.in_ok-second.ensures) (c.in_ok-agreed.ensures.came w next)
