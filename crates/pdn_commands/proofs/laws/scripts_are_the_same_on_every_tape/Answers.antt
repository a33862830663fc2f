use Rattle.pdn_commands.proofs.Tapes.{same_on_tapes}
use Rattle.pdn_commands.proofs.laws.scripts_are_the_same_on_every_tape.Goals as goal

pub returns : goal.returns
returns c = same_on_tapes
