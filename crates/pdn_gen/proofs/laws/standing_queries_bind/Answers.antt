use Rattle.pdn_gen.proofs.StandingLaws.{standing_binds}
use Rattle.pdn_gen.proofs.laws.standing_queries_bind.Goals as goal

pub returns : goal.returns
returns c = standing_binds
