use Rattle.pdn_plan.proofs.Central.{central}
use Rattle.pdn_plan.proofs.laws.plan_means_answer.Goals as goal

pub returns : goal.returns
returns c = λ tables fit written e. central c.args.schema.now tables c.args.query.now fit written e
