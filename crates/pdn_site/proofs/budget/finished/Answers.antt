use Rattle.pdn_site.proofs.BudgetLaws.{outputs_there}
use Rattle.pdn_site.proofs.budget.finished.Goals as goal

pub finish-requires-clause-there : goal.finish-requires-clause-there
finish-requires-clause-there c = outputs_there c.args.b c.args.list.now c.in-Ok.outputs.items c.in-Ok.ensures c.requires
