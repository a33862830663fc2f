use Rattle.pdn_broker.proofs.PreparedLaws.{answers_mean}
use Rattle.pdn_broker.proofs.laws.answers_mean.Goals as goal

pub returns : goal.returns
returns c = answers_mean
