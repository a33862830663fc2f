use Rattle.pdn_explain.specs.Places.{placed}
use Rattle.pdn_explain.proofs.lines.is_placed.Goals as goal

pub returns : goal.returns
unfolding placed
returns c = c.fits.ensures
