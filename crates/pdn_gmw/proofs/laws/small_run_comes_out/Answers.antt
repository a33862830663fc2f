use Rattle.std.proofs.Common.{refl}
use Rattle.pdn_gmw.proofs.laws.small_run_comes_out.Goals as goal
use Rattle.pdn_base.specs.Words.{spread, moved}

pub returns : goal.returns
unfolding spread moved
returns c = record { words = refl; a = refl; from_a = refl; from_b = refl; out_a = refl; out_b = refl }
