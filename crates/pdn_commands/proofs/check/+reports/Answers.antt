use Rattle.std.proofs.Common.{◌≡◌, ◌+◌, ◌++◌, ◌∷◌, [], rules, refl}
use Rattle.std.proofs.lemmas.List.{nil_from_length}
use Rattle.std.proofs.lemmas.Result.{err_from_is_err_and}
use Rattle.pdn_commands.specs.Checking.{reporting}
use Rattle.pdn_query.proofs.Walks.{leads_on, leads_along, begun, halted}
use Rattle.pdn_commands.proofs.check.+reports.Goals as goal

pub returns-in_default : goal.returns-in_default
returns-in_default t c =
    let none : c.args.queries.now ≡ [] = nil_from_length c.args.queries.now (search rules) in
    let empty : c.new.result.items ≡ [] = search rules in
    λ w next. rw (none, empty) (begun w (next []))

pub returns-in_err-text : goal.returns-in_err-text
returns-in_err-text t c =
    let p = err_from_is_err_and c.from_residual.result c.from_residual.ensures.1 in
    let more : c.args.queries.now ≡ c.in-Some.query.now ∷ c.in-Some.later.now = search rules in
    rw (p.1, p.2) (λ w next. rw (more) (c.in_err-text.ensures w (λ first. reporting c.args.schema.now (c.args.number + 1) c.in-Some.later.now (λ more. next (first ++ more)))))

pub returns-in_err-more : goal.returns-in_err-more
returns-in_err-more t c =
    let p = err_from_is_err_and c.from_residual-in_err-more.result c.from_residual-in_err-more.ensures.1 in
    let more : c.args.queries.now ≡ c.in-Some.query.now ∷ c.in-Some.later.now = search rules in
    rw (p.1, p.2) (λ w next. rw (more) (leads_along (c.in_ok-text.ensures w (λ first. reporting c.args.schema.now (c.args.number + 1) c.in-Some.later.now (λ more. next (first ++ more))))
    (c.in_err-more.ensures w (λ more. next (c.in_ok-text.text.items ++ more)))))

pub returns-in_err-append : goal.returns-in_err-append
returns-in_err-append t c =
    let p = err_from_is_err_and c.from_residual-in_err-append.result c.from_residual-in_err-append.ensures.1 in
    rw (p.1, p.2) (λ w next. halted w (reporting c.args.schema.now c.args.number c.args.queries.now next) _ refl)

pub returns : goal.returns
returns t c =
    let more : c.args.queries.now ≡ c.in-Some.query.now ∷ c.in-Some.later.now = search rules in
    λ w next. rw (more, c.in_ok-append.ensures.items) (leads_on (c.in_ok-text.ensures w (λ first. reporting c.args.schema.now (c.args.number + 1) c.in-Some.later.now (λ more. next (first ++ more))))
    (c.in_ok-more.ensures w (λ more. next (c.in_ok-text.text.items ++ more))))
