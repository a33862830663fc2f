use Rattle.pdn_query.proofs.Shown.{seen_if}
use Rattle.pdn_query.proofs.answer.answer_prepared.Goals as goal

pub returns-clause-views : goal.returns-clause-views
returns-clause-views g c = seen_if c.args.prepared (g.D.Deal.tape c.args.crew.now.deal.now) c.args.ticket c.answer.result c.answer.ensures.is
