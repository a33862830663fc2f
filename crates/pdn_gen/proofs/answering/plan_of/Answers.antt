use Rattle.std.proofs.Common.{ap}
use Rattle.pdn_tree.specs.Plans.{PlanModel}
use Rattle.pdn_plan.specs.Binding.{plan}
use Rattle.pdn_gen.proofs.answering.plan_of.Goals as goal

pub returns-in-Ok-clause-root : goal.returns-in-Ok-clause-root
unfolding plan
returns-in-Ok-clause-root c = ap (λ (p : PlanModel). p.root) c.in-Ok.ensures.gives.2
