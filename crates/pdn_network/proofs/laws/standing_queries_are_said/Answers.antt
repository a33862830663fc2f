use Rattle.pdn_network.proofs.StandingLaws.{standing_says}
use Rattle.pdn_network.proofs.laws.standing_queries_are_said.Goals as goal

pub returns : goal.returns
returns c = standing_says
