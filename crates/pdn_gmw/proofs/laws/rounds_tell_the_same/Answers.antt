use Rattle.pdn_gmw.proofs.laws.rounds_tell_the_same.Goals as goal
use Rattle.pdn_gmw.proofs.RoundLaws.{round_law, depth_law}

pub returns : goal.returns
returns c = record { rounds = round_law; depths = depth_law }
