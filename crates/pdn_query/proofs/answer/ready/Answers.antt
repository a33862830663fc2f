use Rattle.pdn_query.proofs.Readiness.{are_ready}
use Rattle.pdn_query.proofs.answer.ready.Goals as goal

pub returns-in-Ok : goal.returns-in-Ok
returns-in-Ok c = are_ready c.args.schema.now c.args.plan.now.root c.args.a c.args.b c.in-Ok.prepared c.in-Ok.ensures.made c.is_prepared.ensures.kept c.is_prepared.ensures.form
