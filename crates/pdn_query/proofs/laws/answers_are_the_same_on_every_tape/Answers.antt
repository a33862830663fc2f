use Rattle.pdn_query.proofs.Tapes.{same_on_tapes}
use Rattle.pdn_query.proofs.laws.answers_are_the_same_on_every_tape.Goals as goal

pub returns : goal.returns
returns c = same_on_tapes
