use Rattle.std.proofs.Common.{◌≡◌, rules, None, Some}
use Rattle.std.proofs.lemmas.Result.{err_from_is_err_and}
use Rattle.pdn_query.proofs.Walks.{begun}
use Rattle.pdn_commands.proofs.folder.rows_from.Goals as goal

pub returns-in_err-rows_of-in-Some-clause-came : goal.returns-in_err-rows_of-in-Some-clause-came
returns-in_err-rows_of-in-Some-clause-came c =
    let p = err_from_is_err_and c.from_residual.result c.from_residual.ensures.1 in
    let some : c.args.text.now ≡ Some c.in-Some.bytes.items = search rules in
    let refuses = rw (c.deref.ensures.value) at c.in_err-rows_of-in-Some.ensures.came in
    rw (p.1, p.2) (λ w next. rw (some) (refuses w (λ rows. next (Some rows))))

pub returns-in_ok-rows_of-in-Some-clause-came : goal.returns-in_ok-rows_of-in-Some-clause-came
returns-in_ok-rows_of-in-Some-clause-came c =
    let some : c.args.text.now ≡ Some c.in-Some.bytes.items = search rules in
    let gives = rw (c.deref.ensures.value) at c.in_ok-rows_of-in-Some.ensures.came in
    λ w next. rw (some) (gives w (λ rows. next (Some rows)))

pub returns-in-None-clause-came : goal.returns-in-None-clause-came
returns-in-None-clause-came c =
    let none : c.args.text.now ≡ None = search rules in
    λ w next. rw (none) (begun w (next None))
