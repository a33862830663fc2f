use Rattle.pdn_query.proofs.Walks.{said, cut}
use Rattle.pdn_query.proofs.world.say.Goals as goal

pub returns-in-Ok-clause-came : goal.returns-in-Ok-clause-came
returns-in-Ok-clause-came g c = λ rest. said rest c.in-Ok.ensures.put

pub returns-in-Err-Failed-clause-came : goal.returns-in-Err-Failed-clause-came
returns-in-Err-Failed-clause-came g c = λ rest. cut rest c.in-Err-Failed.ensures.put
