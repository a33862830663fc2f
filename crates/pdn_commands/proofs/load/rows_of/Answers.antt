use Rattle.std.proofs.Common.{[], refl, Ok, Err}
use Rattle.pdn_base.specs.declared.status.Status.TheVariants as status
use Rattle.pdn_schema.specs.Models.{table_of}
use Rattle.pdn_query.specs.Questions.{RowsIn}
use Rattle.pdn_query.specs.Script.{or_fault}
use Rattle.pdn_commands.specs.Script.{importing}
use Rattle.pdn_query.proofs.Walks.{leads_along, known, refused, halted}
use Rattle.pdn_commands.proofs.load.rows_of.Goals as goal

pub returns-in-Ok-clause-came : goal.returns-in-Ok-clause-came
returns-in-Ok-clause-came c = λ w next. known w (RowsIn (table_of c.args.schema.now c.args.table) c.args.bytes.now) (or_fault status.Csv next) (Ok _) refl c.in-Ok.ensures.rows

pub returns-in-Err-At-clause-came : goal.returns-in-Err-At-clause-came
returns-in-Err-At-clause-came c = λ w next. leads_along (known w (RowsIn (table_of c.args.schema.now c.args.table) c.args.bytes.now) (or_fault status.Csv next) (Err (c.in-Err-At.entry, c.in-Err-At.cause)) refl (rw (c.in-Err-At.field-0-is) at c.in-Err-At.ensures.rows))
    (refused w [] [] (status.Csv c.in-Err-At.entry c.in-Err-At.cause) _ c.refused.ensures)

pub returns-in-Err-Memory-clause-came : goal.returns-in-Err-Memory-clause-came
returns-in-Err-Memory-clause-came c = λ w next. halted w (importing (table_of c.args.schema.now c.args.table) c.args.bytes.now next) _ refl
