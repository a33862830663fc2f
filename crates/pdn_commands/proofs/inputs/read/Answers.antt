use Rattle.std.proofs.Common.{[], refl}
use Rattle.pdn_base.specs.declared.status.Status.TheVariants as status
use Rattle.pdn_base.specs.declared.status.Who.TheVariants.{Files}
use Rattle.pdn_commands.specs.Script.{found, reading}
use Rattle.pdn_query.proofs.Walks.{leads_along, replied, faulted_by, spent, refused}
use Rattle.pdn_commands.proofs.inputs.read.Goals as goal

pub returns-in-Ok-clause-came : goal.returns-in-Ok-clause-came
returns-in-Ok-clause-came g c = λ next. replied (found c.args.name.now next) c.in-Ok.ensures.read

pub returns-in-Err-Memory-clause-came : goal.returns-in-Err-Memory-clause-came
returns-in-Err-Memory-clause-came g c = λ next. spent (reading c.args.name.now next) _ refl (rw (c.in-Err-Memory.field-0-is) at c.in-Err-Memory.ensures.read)

pub returns-in-Err-Absent-clause-came : goal.returns-in-Err-Absent-clause-came
returns-in-Err-Absent-clause-came g c = λ next. leads_along (replied (found c.args.name.now next) (rw (c.in-Err-Absent.field-0-is) at c.in-Err-Absent.ensures.read)) (refused _ [] [] (status.NoFile c.args.name.now) _ c.no_file.ensures)

pub returns-in-Err-Failed-clause-came : goal.returns-in-Err-Failed-clause-came
returns-in-Err-Failed-clause-came g c =
    let failed = rw (c.in-Err-Failed.field-0-is) at c.in-Err-Failed.ensures.read in
    λ next. faulted_by (found c.args.name.now next) Files _ refl failed.left c.refused.ensures failed
