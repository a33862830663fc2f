use Rattle.pdn_agree.proofs.Shapes.{shapes_are_equal}
use Rattle.pdn_worlds.proofs.FileLaws.{file_law, file_back_law}
use Rattle.pdn_worlds.proofs.laws.files_look_the_same.Goals as goal

pub returns : goal.returns
returns c = record { views = file_law shapes_are_equal; back = file_back_law shapes_are_equal }
