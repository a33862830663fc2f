use Rattle.pdn_obl_rows.proofs.KeepLaws.{project_keeps, filter_keeps, join_keeps, append_keeps}
use Rattle.pdn_obl_rows.proofs.laws.operators_keep_kinds.Goals as goal

pub returns : goal.returns
returns c = record { project = project_keeps; filter = filter_keeps; join = join_keeps; append = append_keeps }
