use Rattle.pdn_agree.proofs.Shapes.{shapes_are_equal}
use Rattle.pdn_agree.proofs.laws.agreeing_unions_have_equal_shapes.Goals as goal

pub returns : goal.returns
returns c = shapes_are_equal
