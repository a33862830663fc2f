use Rattle.std.proofs.Common.{subst}
use Rattle.pdn_schema.specs.Models.{SchemaModel}
use Rattle.pdn_schema.specs.Schemas.{IsSchema}
use Rattle.pdn_http.proofs.OneOutcome.{one_outcome}
use Rattle.pdn_http.proofs.laws.connections_have_one_outcome.Goals as goal

pub returns : goal.returns
returns c = λ bytes one other. one_outcome c.args.schema.now.callers bytes one other (subst (λ (s : SchemaModel). IsSchema s) c.schema.view_is c.schema.invariant).callers
