use Rattle.std.proofs.Common.{◌∙◌}
use Rattle.std.proofs.lemmas.Result.{err_from_is_err_and}
use Rattle.pdn_schema.specs.Words.{lines_of}
use Rattle.pdn_schema.proofs.Found.{read_says}
use Rattle.pdn_schema.proofs.FirstFault.{fault_of}
use Rattle.pdn_schema.proofs.Only.{same_schema, only_memory}
use Rattle.pdn_schema.proofs.read.read_schema.Goals as goal

pub returns-in_err-read_part-clause-only : goal.returns-in_err-read_part-clause-only
returns-in_err-read_part-clause-only c = λ s h.
    let p = err_from_is_err_and c.from_residual.result c.from_residual.ensures.1 in
    rw (p.1, p.2) (only_memory c.args.bytes.now s c.in_err-read_part.field-0.0 h c.in_err-read_part.ensures)

pub returns-in_err-read_part-clause-fault : goal.returns-in_err-read_part-clause-fault
returns-in_err-read_part-clause-fault c =
    let p = err_from_is_err_and c.from_residual.result c.from_residual.ensures.1 in
    rw (p.1, p.2) (fault_of (lines_of c.args.bytes.now) c.in_err-read_part.field-0.0 c.in_err-read_part.ensures)

pub into_schema-requires : goal.into_schema-requires
into_schema-requires c = (read_says c.args.bytes.now c.in_ok-read_part.field-0 c.in_ok-read_part.ensures).fits

pub returns-clause-found : goal.returns-clause-found
returns-clause-found c = rw c.into_schema.ensures (read_says c.args.bytes.now c.in_ok-read_part.field-0 c.in_ok-read_part.ensures)

pub returns-clause-only : goal.returns-clause-only
returns-clause-only c = λ s h. c.into_schema.ensures ∙ same_schema c.args.bytes.now s c.in_ok-read_part.field-0 h c.in_ok-read_part.ensures
