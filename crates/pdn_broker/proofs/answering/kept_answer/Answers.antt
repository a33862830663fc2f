use Rattle.std.proofs.Common.{◌∙◌}
use Rattle.std.proofs.lemmas.Result.{IfOk-weaker}
use Rattle.pdn_broker.proofs.ViewLaws.{runs_and_sections}
use Rattle.pdn_broker.proofs.answering.kept_answer.Goals as goal

pub tell_runs-requires-after_bounds : goal.tell_runs-requires-after_bounds
tell_runs-requires-after_bounds g c κs within =
    runs_and_sections c.args.prepared.now c.dealt_sections.ensures.kept (g.D.Deal.tape c.args.deal.now) c.args.ticket _ _ (c.as_slice-2.ensures.value ∙ c.in_ok-runs.ensures) (c.as_slice.ensures.value ∙ c.in_ok-dealt.ensures.are)

pub answer_on-requires-clause-runs : goal.answer_on-requires-clause-runs
answer_on-requires-clause-runs g c = (g.D.Deal.tape c.args.deal.now, c.in_ok-runs.ensures)

pub returns-clause-is : goal.returns-clause-is
returns-clause-is g c = IfOk-weaker c.answer_on.result _ _ (λ answered is. is (g.D.Deal.tape c.args.deal.now) c.in_ok-runs.ensures) c.answer_on.ensures.is
