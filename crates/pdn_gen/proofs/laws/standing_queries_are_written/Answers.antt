use Rattle.pdn_gen.proofs.StandingLaws.{standing_written}
use Rattle.pdn_gen.proofs.laws.standing_queries_are_written.Goals as goal

pub returns : goal.returns
returns c = standing_written
