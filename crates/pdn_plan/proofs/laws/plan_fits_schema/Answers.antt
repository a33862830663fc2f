use Rattle.std.proofs.Common.{subst}
use Rattle.pdn_schema.specs.Models.{SchemaModel}
use Rattle.pdn_schema.specs.Schemas.{IsSchema}
use Rattle.pdn_plan.proofs.PlanFits.{plan-fits}
use Rattle.pdn_plan.proofs.laws.plan_fits_schema.Goals as goal

pub returns : goal.returns
returns c = λ written e. plan-fits c.args.schema.now c.args.query.now (subst (λ (s : SchemaModel). IsSchema s) c.schema.view_is c.schema.invariant) written e
