use Rattle.pdn_agree.proofs.Shapes.{shapes_are_equal}
use Rattle.pdn_worlds.proofs.Forms.{second_world_law}
use Rattle.pdn_worlds.proofs.laws.agreeing_unions_are_worlds.Goals as goal

pub returns : goal.returns
returns c = second_world_law shapes_are_equal
