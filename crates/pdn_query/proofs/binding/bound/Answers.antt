use Rattle.std.proofs.Common.{[], refl, Ok, Err}
use Rattle.pdn_base.specs.declared.status.Status.TheVariants as status
use Rattle.pdn_query.specs.Questions.{Bound, Broken, Hidden}
use Rattle.pdn_query.specs.Script.{or_unbound, binding}
use Rattle.pdn_query.proofs.Walks.{leads_along, known, refused, halted}
use Rattle.pdn_query.proofs.binding.bound.Goals as goal

pub returns-in-Ok-clause-came : goal.returns-in-Ok-clause-came
returns-in-Ok-clause-came c = λ w next. known w (Bound c.args.schema.now c.args.query.now) (or_unbound next) (Ok _) refl c.in-Ok.ensures.gives

pub returns-in-Err-Refused-clause-came : goal.returns-in-Err-Refused-clause-came
returns-in-Err-Refused-clause-came c = λ w next. leads_along (known w (Bound c.args.schema.now c.args.query.now) (or_unbound next) (Err (Broken c.in-Err-Refused.kind c.in-Err-Refused.name)) refl (rw (c.in-Err-Refused.field-0-is) at c.in-Err-Refused.ensures.gives))
    (refused w [] [] (status.Plan c.in-Err-Refused.kind c.in-Err-Refused.name) _ c.refused.ensures)

pub returns-in-Err-Forbidden-clause-came : goal.returns-in-Err-Forbidden-clause-came
returns-in-Err-Forbidden-clause-came c = λ w next. leads_along (known w (Bound c.args.schema.now c.args.query.now) (or_unbound next) (Err (Hidden c.in-Err-Forbidden.column c.in-Err-Forbidden.label)) refl (rw (c.in-Err-Forbidden.field-0-is) at c.in-Err-Forbidden.ensures.gives))
    (refused w [] [] (status.Forbidden c.in-Err-Forbidden.column c.in-Err-Forbidden.label) _ c.refused-in-Err-Forbidden.ensures)

pub returns-in-Err-Memory-clause-came : goal.returns-in-Err-Memory-clause-came
returns-in-Err-Memory-clause-came c = λ w next. halted w (binding c.args.schema.now c.args.query.now next) _ refl
