use Rattle.pdn_agree.proofs.Shapes.{shapes_are_equal}
use Rattle.pdn_worlds.proofs.QueryLaws.{others_law}
use Rattle.pdn_worlds.proofs.laws.other_words_are_kept.Goals as goal

pub returns : goal.returns
returns c = others_law shapes_are_equal
