use Rattle.pdn_obl_rows.proofs.AppendLaws.{append_means}
use Rattle.pdn_obl_rows.proofs.EncodingLaws.{encoded_means}
use Rattle.pdn_obl_rows.proofs.JoinLaws.{join_means}
use Rattle.pdn_obl_rows.proofs.OperatorLaws.{filter_means}
use Rattle.pdn_obl_rows.proofs.laws.operators_mean.Goals as goal

pub returns : goal.returns
returns c = record {
  encoded = encoded_means;
  filter = λ inputs words ends list shaped clauses fits out y. filter_means inputs words ends list shaped clauses fits y;
  join = join_means;
  append = append_means;
}
