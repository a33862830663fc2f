use Rattle.pdn_agree.proofs.Shapes.{shapes_are_equal}
use Rattle.pdn_worlds.proofs.QueryLaws.{transcript_law}
use Rattle.pdn_worlds.proofs.laws.sites_see_the_same.Goals as goal

pub returns : goal.returns
returns c = transcript_law shapes_are_equal
