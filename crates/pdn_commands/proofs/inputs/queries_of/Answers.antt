use Rattle.std.proofs.Common.{[], refl, Ok, Err}
use Rattle.pdn_base.specs.declared.status.Status.TheVariants as status
use Rattle.pdn_query.specs.Questions.{QueriesIn}
use Rattle.pdn_query.specs.Script.{or_fault}
use Rattle.pdn_commands.specs.Script.{with_queries}
use Rattle.pdn_query.proofs.Walks.{leads_along, known, refused, halted}
use Rattle.pdn_commands.proofs.inputs.queries_of.Goals as goal

pub returns-in-Ok-clause-came : goal.returns-in-Ok-clause-came
returns-in-Ok-clause-came c = λ w next. known w (QueriesIn c.args.bytes.now) (or_fault status.Sql next) (Ok _) refl c.in-Ok.ensures.found

pub returns-in-Err-At-clause-came : goal.returns-in-Err-At-clause-came
returns-in-Err-At-clause-came c = λ w next. leads_along (known w (QueriesIn c.args.bytes.now) (or_fault status.Sql next) (Err (c.in-Err-At.place, c.in-Err-At.kind)) refl (rw (c.in-Err-At.field-0-is) at c.in-Err-At.ensures.fault))
    (refused w [] [] (status.Sql c.in-Err-At.place c.in-Err-At.kind) _ c.refused.ensures)

pub returns-in-Err-Memory-clause-came : goal.returns-in-Err-Memory-clause-came
returns-in-Err-Memory-clause-came c = λ w next. halted w (with_queries c.args.bytes.now next) _ refl
