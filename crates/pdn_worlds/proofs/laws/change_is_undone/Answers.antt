use Rattle.pdn_agree.proofs.Shapes.{shapes_are_equal}
use Rattle.pdn_worlds.proofs.QueryLaws.{way_back_law}
use Rattle.pdn_worlds.proofs.laws.change_is_undone.Goals as goal

pub returns : goal.returns
returns c = way_back_law shapes_are_equal
