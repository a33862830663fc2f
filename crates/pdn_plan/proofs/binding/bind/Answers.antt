use Rattle.std.proofs.Common.{subst}
use Rattle.pdn_schema.specs.Models.{SchemaModel}
use Rattle.pdn_schema.specs.Schemas.{IsSchema}
use Rattle.pdn_plan.proofs.BindingLaws.{gives_fits}
use Rattle.pdn_plan.proofs.binding.bind.Goals as goal

pub returns-clause-fits : goal.returns-clause-fits
returns-clause-fits c = gives_fits c.args.schema.now c.args.query.now c.bind_query.result (subst (λ (s : SchemaModel). IsSchema s) c.schema.view_is c.schema.invariant) c.bind_query.ensures
