use Rattle.pdn_gmw.proofs.laws.halves_meet.Goals as goal
use Rattle.pdn_gmw.proofs.TwoHalves.{halves_law}
use Rattle.pdn_gmw.proofs.Outputs.{run_law}

pub returns : goal.returns
returns c = record { shares = halves_law; run = run_law }
