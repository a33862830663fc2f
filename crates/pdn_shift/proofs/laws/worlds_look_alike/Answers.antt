use Rattle.pdn_shift.proofs.TwoWorlds.{unit_law}
use Rattle.pdn_shift.proofs.laws.worlds_look_alike.Goals as goal

pub returns : goal.returns
returns c = unit_law
