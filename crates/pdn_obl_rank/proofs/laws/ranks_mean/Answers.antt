use Rattle.pdn_obl_rank.proofs.PlaceLaws.{number_means}
use Rattle.pdn_obl_rank.proofs.TopLaws.{top_means}
use Rattle.pdn_obl_rank.proofs.KindLaws.{number_holds, top_holds}
use Rattle.pdn_obl_rank.proofs.laws.ranks_mean.Goals as goal

pub returns : goal.returns
returns c = record { number = number_means; number_holds = number_holds; top = top_means; top_holds = top_holds }
