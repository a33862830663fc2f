use Rattle.std.proofs.Common.{◌≡◌, [], None, Some, rules}
use Rattle.std.proofs.lemmas.Result.{err_from_is_err_and}
use Rattle.pdn_base.specs.declared.status.Status.TheVariants as status
use Rattle.pdn_schema.specs.Models.{table_of}
use Rattle.pdn_query.specs.Script.{Say, Finish}
use Rattle.pdn_commands.specs.Script.{handing, table_number}
use Rattle.pdn_query.proofs.Walks.{leads_along, came_end, refused}
use Rattle.pdn_commands.proofs.load.load.Goals as goal

pub returns-in_err-inputs-clause-goes : goal.returns-in_err-inputs-clause-goes
returns-in_err-inputs-clause-goes g c =
    let p = err_from_is_err_and c.from_residual.result c.from_residual.ensures.1 in
    rw (p.1, p.2) (c.in_err-inputs.ensures.came _)

pub returns-in_default-clause-goes : goal.returns-in_default-clause-goes
returns-in_default-clause-goes g c =
    let none : table_number c.args.load.table.now c.in_ok-inputs.inputs.schema ≡ None = search rules in
    leads_along (c.in_ok-inputs.ensures.came _) (rw (none) (refused _ [] [] (status.Plan 1 c.args.load.table.now) _ c.no_table.ensures))

pub returns-in_err-rows-clause-goes : goal.returns-in_err-rows-clause-goes
returns-in_err-rows-clause-goes g c =
    let p = err_from_is_err_and c.from_residual-in_err-rows.result c.from_residual-in_err-rows.ensures.1 in
    let some : table_number c.args.load.table.now c.in_ok-inputs.inputs.schema ≡ Some c.in-Some.table = search rules in
    let refuses = rw (c.deref.ensures.value) at c.in_err-rows.ensures.came in
    rw (p.1, p.2) (leads_along (c.in_ok-inputs.ensures.came _) (rw (some) (refuses _ _)))

pub returns-in_err-text-clause-goes : goal.returns-in_err-text-clause-goes
returns-in_err-text-clause-goes g c =
    let p = err_from_is_err_and c.from_residual-in_err-text.result c.from_residual-in_err-text.ensures.1 in
    let some : table_number c.args.load.table.now c.in_ok-inputs.inputs.schema ≡ Some c.in-Some.table = search rules in
    let rows = rw (c.deref.ensures.value) at c.in_ok-rows.ensures.came in
    rw (p.1, p.2) (leads_along (c.in_ok-inputs.ensures.came _) (rw (some) (leads_along (rows _ (λ given. handing c.args.site (table_of c.in_ok-inputs.inputs.schema c.in-Some.table) c.args.load.number given (λ text. Say text Finish)))
    (c.in_err-text.ensures.came (λ text. Say text Finish)))))

pub returns-clause-goes : goal.returns-clause-goes
returns-clause-goes g c =
    let some : table_number c.args.load.table.now c.in_ok-inputs.inputs.schema ≡ Some c.in-Some.table = search rules in
    let rows = rw (c.deref.ensures.value) at c.in_ok-rows.ensures.came in
    leads_along (c.in_ok-inputs.ensures.came _) (rw (some) (leads_along (rows _ (λ given. handing c.args.site (table_of c.in_ok-inputs.inputs.schema c.in-Some.table) c.args.load.number given (λ text. Say text Finish)))
    (leads_along (c.in_ok-text.ensures.came (λ text. Say text Finish)) (came_end _ c.say.result (c.say.ensures.came Finish) (search rules)))))
