use Rattle.std.proofs.Common.{[], refl, Ok, Err}
use Rattle.pdn_base.specs.declared.status.Status.TheVariants as status
use Rattle.pdn_query.specs.Questions.{SchemaIn}
use Rattle.pdn_query.specs.Script.{or_fault}
use Rattle.pdn_commands.specs.Script.{with_schema}
use Rattle.pdn_query.proofs.Walks.{leads_along, known, refused, halted}
use Rattle.pdn_commands.proofs.inputs.schema_of.Goals as goal

pub returns-in-Ok : goal.returns-in-Ok
returns-in-Ok c = λ w next. known w (SchemaIn c.args.bytes.now) (or_fault status.Schema next) (Ok _) refl c.in-Ok.ensures.found

pub returns-in-Err-Line : goal.returns-in-Err-Line
returns-in-Err-Line c = λ w next. leads_along (known w (SchemaIn c.args.bytes.now) (or_fault status.Schema next) (Err (c.in-Err-Line.line, c.in-Err-Line.cause)) refl (rw (c.in-Err-Line.field-0-is) at c.in-Err-Line.ensures.fault))
    (refused w [] [] (status.Schema c.in-Err-Line.line c.in-Err-Line.cause) _ c.refused.ensures)

pub returns-in-Err-Memory : goal.returns-in-Err-Memory
returns-in-Err-Memory c = λ w next. halted w (with_schema c.args.bytes.now next) _ refl
