use Rattle.std.proofs.Common.{refl}
use Rattle.std.proofs.lemmas.Result.{err_from_is_err_and}
use Rattle.pdn_query.proofs.Walks.{halted}
use Rattle.pdn_commands.proofs.generate.generate.Goals as goal

pub returns-in_err-network-clause-goes : goal.returns-in_err-network-clause-goes
returns-in_err-network-clause-goes g c =
    let p = err_from_is_err_and c.from_residual.result c.from_residual.ensures.1 in
    rw (p.1, p.2) (halted _ _ _ refl)

pub returns-in_err-queries-clause-goes : goal.returns-in_err-queries-clause-goes
returns-in_err-queries-clause-goes g c =
    let p = err_from_is_err_and c.from_residual-in_err-queries.result c.from_residual-in_err-queries.ensures.1 in
    rw (p.1, p.2) (halted _ _ _ refl)
