use Rattle.std.proofs.Common.{[], None, Some, length, refl}
use Rattle.std.proofs.lemmas.Result.{err_from_is_err_and}
use Rattle.pdn_base.specs.declared.status.Status.TheVariants as status
use Rattle.pdn_schema.specs.Models.{table_of}
use Rattle.pdn_query.specs.Questions.{who_of}
use Rattle.pdn_query.specs.Script.{column_name}
use Rattle.pdn_commands.specs.Script.{answered, handing}
use Rattle.pdn_query.proofs.Walks.{leads_along, replied, faulted, spent, halted, refused}
use Rattle.pdn_commands.proofs.load.hand_over.Goals as goal

pub returns-in_err-new-clause-came : goal.returns-in_err-new-clause-came
returns-in_err-new-clause-came g c =
    let p = err_from_is_err_and c.from_residual.result c.from_residual.ensures.1 in
    rw (p.1, p.2) (λ next. halted _ (handing c.args.site (table_of c.args.schema.now c.args.batch.table) c.args.batch.number c.args.batch.rows.now next) _ refl)

pub returns-in_err-again-clause-came : goal.returns-in_err-again-clause-came
returns-in_err-again-clause-came g c =
    let p = err_from_is_err_and c.from_residual-in_err-again.result c.from_residual-in_err-again.ensures.1 in
    rw (p.1, p.2) (λ next. halted _ (handing c.args.site (table_of c.args.schema.now c.args.batch.table) c.args.batch.number c.args.batch.rows.now next) _ refl)

pub returns-in_err-line-clause-came : goal.returns-in_err-line-clause-came
returns-in_err-line-clause-came g c =
    let p = err_from_is_err_and c.from_residual-in_err-line.result c.from_residual-in_err-line.ensures.1 in
    rw (p.1, p.2) (λ next. halted _ (handing c.args.site (table_of c.args.schema.now c.args.batch.table) c.args.batch.number c.args.batch.rows.now next) _ refl)

pub returns-in-Ok-New-clause-came : goal.returns-in-Ok-New-clause-came
returns-in-Ok-New-clause-came g c = λ next. rw (c.in_ok-new.ensures, c.table-named.ensures.is) (replied (answered (table_of c.args.schema.now c.args.batch.table) c.args.batch.number (length c.args.batch.rows.now) next) (rw (c.in-Ok-New.field-0-is) at c.in-Ok-New.ensures.added))

pub returns-in-Ok-Again-clause-came : goal.returns-in-Ok-Again-clause-came
returns-in-Ok-Again-clause-came g c = λ next. rw (c.in_ok-again.ensures, c.table-named.ensures.is) (replied (answered (table_of c.args.schema.now c.args.batch.table) c.args.batch.number (length c.args.batch.rows.now) next) (rw (c.in-Ok-Again.field-0-is) at c.in-Ok-Again.ensures.added))

pub returns-in-Err-Failed-clause-came : goal.returns-in-Err-Failed-clause-came
returns-in-Err-Failed-clause-came g c = λ next. faulted (answered (table_of c.args.schema.now c.args.batch.table) c.args.batch.number (length c.args.batch.rows.now) next) (who_of c.args.site) _ refl (rw (c.in_ok-line.ensures, c.who_of-who.ensures) refl) (rw (c.in-Err-Failed.field-0-is) at c.in-Err-Failed.ensures.added)

pub returns-in-Err-Memory-clause-came : goal.returns-in-Err-Memory-clause-came
returns-in-Err-Memory-clause-came g c = λ next. spent (handing c.args.site (table_of c.args.schema.now c.args.batch.table) c.args.batch.number c.args.batch.rows.now next) _ refl (rw (c.in-Err-Memory.field-0-is) at c.in-Err-Memory.ensures.added)

pub returns-in-Err-Differs-clause-came : goal.returns-in-Err-Differs-clause-came
returns-in-Err-Differs-clause-came g c = λ next. leads_along (replied (answered (table_of c.args.schema.now c.args.batch.table) c.args.batch.number (length c.args.batch.rows.now) next) (rw (c.in-Err-Differs.field-0-is) at c.in-Err-Differs.ensures.added)) (refused _ [] [] (status.BatchDiffers c.in-Err-Differs.at) _ c.refused.ensures)

pub returns-in-Err-OverRows-clause-came : goal.returns-in-Err-OverRows-clause-came
returns-in-Err-OverRows-clause-came g c = λ next. leads_along (replied (answered (table_of c.args.schema.now c.args.batch.table) c.args.batch.number (length c.args.batch.rows.now) next) (rw (c.in-Err-OverRows.field-0-is) at c.in-Err-OverRows.ensures.added)) (refused _ [] [] (status.OverBound None) _ c.refused-in-Err-OverRows.ensures)

pub returns-clause-came : goal.returns-clause-came
returns-clause-came g c = λ next. leads_along (replied (answered (table_of c.args.schema.now c.args.batch.table) c.args.batch.number (length c.args.batch.rows.now) next) (rw (c.in-Err-OverPer.field-0-is) at c.in-Err-OverPer.ensures.added))
    (refused _ (table_of c.args.schema.now c.args.batch.table).name (column_name (table_of c.args.schema.now c.args.batch.table) c.in-Err-OverPer.column) (status.OverBound (Some c.in-Err-OverPer.column)) _ (rw (c.table-named.ensures.is) at c.over_per.ensures))
