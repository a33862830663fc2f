use Rattle.pdn_plan.proofs.WorkedAnswers.{answers_worked}
use Rattle.pdn_plan.proofs.laws.answers_worked.Goals as goal

pub returns : goal.returns
returns c = answers_worked
