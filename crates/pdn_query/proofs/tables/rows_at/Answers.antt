use Rattle.std.proofs.Common.{refl}
use Rattle.pdn_schema.specs.Models.{table_of}
use Rattle.pdn_query.specs.Questions.{Kept, who_of}
use Rattle.pdn_query.specs.Script.{Ask}
use Rattle.pdn_query.proofs.Walks.{replied, faulted_by, spent}
use Rattle.pdn_query.proofs.tables.rows_at.Goals as goal

pub returns-in-Ok-clause-came : goal.returns-in-Ok-clause-came
returns-in-Ok-clause-came g c = λ next. replied next c.in-Ok.ensures.kept

pub returns-in-Err-Failed-clause-came : goal.returns-in-Err-Failed-clause-came
returns-in-Err-Failed-clause-came g c =
    let failed = rw (c.in-Err-Failed.field-0-is) at c.in-Err-Failed.ensures.kept in
    λ next. faulted_by next (who_of c.args.site) _ refl failed.left (rw (c.who_of.ensures) at c.refused.ensures) failed

pub returns-in-Err-Memory-clause-came : goal.returns-in-Err-Memory-clause-came
returns-in-Err-Memory-clause-came g c = λ next. spent (Ask (Kept c.args.site (table_of c.args.schema.now c.args.table).name) next) _ refl (rw (c.in-Err-Memory.field-0-is) at c.in-Err-Memory.ensures.kept)
