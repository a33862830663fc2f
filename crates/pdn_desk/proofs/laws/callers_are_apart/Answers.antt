use Rattle.pdn_desk.proofs.Apart.{callers_apart}
use Rattle.pdn_desk.proofs.laws.callers_are_apart.Goals as goal

pub returns : goal.returns
returns c = callers_apart
