use Rattle.std.proofs.Common.{refl, ◌∙◌}
use Rattle.pdn_base.specs.declared.status.Who.TheVariants.{Files}
use Rattle.std.proofs.lemmas.Result.{err_from_is_err_and}
use Rattle.pdn_commands.specs.Twinning.{finding}
use Rattle.pdn_query.proofs.Walks.{replied, faulted_by, halted}
use Rattle.pdn_commands.proofs.folder.text_in.Goals as goal

pub returns-in_err-name-clause-came : goal.returns-in_err-name-clause-came
returns-in_err-name-clause-came g c =
    let p = err_from_is_err_and c.from_residual.result c.from_residual.ensures.1 in
    rw (p.1, p.2) (λ next. halted _ (finding c.args.folder.now c.args.table.now next) _ refl)

pub returns-in-Ok-clause-came : goal.returns-in-Ok-clause-came
returns-in-Ok-clause-came g c = λ next. replied next (rw (c.as_str.ensures.value ∙ c.in_ok-name.ensures) at c.in-Ok.ensures.read)

pub returns-in-Err-Absent-clause-came : goal.returns-in-Err-Absent-clause-came
returns-in-Err-Absent-clause-came g c = λ next. replied next (rw (c.as_str.ensures.value ∙ c.in_ok-name.ensures) at (rw (c.in-Err-Absent.field-0-is) at c.in-Err-Absent.ensures.read))

pub returns-in-Err-Failed-clause-came : goal.returns-in-Err-Failed-clause-came
returns-in-Err-Failed-clause-came g c =
    let failed = rw (c.as_str.ensures.value ∙ c.in_ok-name.ensures) at (rw (c.in-Err-Failed.field-0-is) at c.in-Err-Failed.ensures.read) in
    λ next. faulted_by next Files _ refl failed.left c.refused.ensures failed
