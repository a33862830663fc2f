use Rattle.pdn_desk.specs.Courses.{Answer}
use Rattle.pdn_desk.specs.Requests.{answer_script}
use Rattle.pdn_desk.proofs.Coming.{read_by}
use Rattle.pdn_desk.proofs.answer.answered_text.Goals as goal

pub returns-clause-came : goal.returns-clause-came
returns-clause-came g c = λ next. read_by _ _ c.args.text.now (λ query. Answer (answer_script c.args.schema.now query) next) _ _ c.answered.result c.in_ok-query.ensures.said (c.answered.ensures.came next)
