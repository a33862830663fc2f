use Rattle.std.proofs.Common.{ℕ, List, refl, sym, subst}
use Rattle.std.proofs.lemmas.Result.{err_from_is_err_and}
use Rattle.pdn_base.specs.declared.status.Status.TheVariants as status
use Rattle.pdn_reply.specs.Bodies.{answer_text}
use Rattle.pdn_query.specs.Script.{Finish, Refuse}
use Rattle.pdn_desk.specs.Courses.{Answer}
use Rattle.pdn_desk.specs.Requests.{answer_script}
use Rattle.pdn_desk.specs.Ways.{On}
use Rattle.pdn_desk.proofs.Queries.{along_asked, leads_asked, said_on, said_short, stopped}
use Rattle.pdn_desk.proofs.answer.answered.Goals as goal

pub returns-in_err-answer-clause-came : goal.returns-in_err-answer-clause-came
returns-in_err-answer-clause-came g c =
    let p = err_from_is_err_and c.from_residual.result c.from_residual.ensures.1 in
    rw (p.1, p.2) (λ next. stopped (g.W.Outside.state c.args.world.now) (g.W.Outside.state c.answered_query.new.world) (answer_script c.args.schema.now c.args.query.now) next c.in_err-answer.ensures.only _ (c.in_err-answer.ensures.came (λ plan ticket rows views. Finish)))

pub returns-in_err-answer-clause-asked : goal.returns-in_err-answer-clause-asked
returns-in_err-answer-clause-asked g c = along_asked (g.W.Outside.state c.args.world.now) (g.W.Outside.state c.answered_query.new.world) _ _ (c.in_err-answer.ensures.came (λ plan ticket rows views. Finish))

pub returns-in_err-body_of-clause-came : goal.returns-in_err-body_of-clause-came
returns-in_err-body_of-clause-came g c =
    let p = err_from_is_err_and c.from_residual-in_err-body_of.result c.from_residual-in_err-body_of.ensures.1 in
    rw (p.1, p.2) (λ next. said_short (g.W.Outside.state c.args.world.now) (g.W.Outside.state c.answered_query.new.world) (answer_script c.args.schema.now c.args.query.now) next c.in_ok-answer.ensures.only (c.in_ok-answer.ensures.came (λ plan ticket rows views. Finish)))

pub returns-in_err-body_of-clause-asked : goal.returns-in_err-body_of-clause-asked
returns-in_err-body_of-clause-asked g c = leads_asked (g.W.Outside.state c.args.world.now) (g.W.Outside.state c.answered_query.new.world) _ (c.in_ok-answer.ensures.came (λ plan ticket rows views. Finish))

pub returns-clause-came : goal.returns-clause-came
returns-clause-came g c = λ next.
    subst (λ (body : List ℕ). On (g.W.Outside.state c.args.world.now) (g.W.Outside.state c.answered_query.new.world) (Answer (answer_script c.args.schema.now c.args.query.now) next) (next body)) (sym c.in_ok-body_of.ensures)
    (said_on (g.W.Outside.state c.args.world.now) (g.W.Outside.state c.answered_query.new.world) (answer_script c.args.schema.now c.args.query.now) next c.in_ok-answer.ensures.only _ (c.in_ok-answer.ensures.came (λ plan ticket rows views. Refuse status.Done (answer_text plan.columns rows ticket))))

pub returns-clause-asked : goal.returns-clause-asked
returns-clause-asked g c = leads_asked (g.W.Outside.state c.args.world.now) (g.W.Outside.state c.answered_query.new.world) _ (c.in_ok-answer.ensures.came (λ plan ticket rows views. Finish))
