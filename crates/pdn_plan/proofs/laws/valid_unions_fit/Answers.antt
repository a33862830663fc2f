use Rattle.pdn_plan.proofs.UnionLaws.{union_fits}
use Rattle.pdn_plan.proofs.laws.valid_unions_fit.Goals as goal

pub returns : goal.returns
returns c = union_fits c.args.schema.now
