use Rattle.pdn_obl_rank.proofs.WorkedLaws.{worked_counts, worked_runs}
use Rattle.pdn_obl_rank.proofs.laws.ranks_worked.Goals as goal

pub returns : goal.returns
returns c = record { counts = worked_counts; runs = worked_runs }
