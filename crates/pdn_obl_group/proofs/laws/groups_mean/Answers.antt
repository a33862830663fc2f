use Rattle.pdn_obl_group.proofs.CutLaws.{cut_distinct_is, cut_group_is}
use Rattle.pdn_obl_group.proofs.DistinctLaws.{distinct_is}
use Rattle.pdn_obl_group.proofs.GroupLaws.{group_is}
use Rattle.pdn_obl_group.proofs.TallyLaws.{count_law}
use Rattle.pdn_obl_group.proofs.laws.groups_mean.Goals as goal

pub returns : goal.returns
returns c = record {
  distinct = λ inputs words ends list shaped out y. distinct_is ends list shaped y;
  group = λ inputs words ends list shaped few keys there having fits out y. group_is ends list shaped keys there few having fits y;
  count = λ inputs words ends list few out y. count_law ends list few y;
  cut_distinct = λ inputs words ends list value are only out y. cut_distinct_is ends list value are only y;
  cut_group = λ inputs words ends list shaped few keys there value having fits are only out y. cut_group_is ends list shaped few keys there value having fits are only y;
}
