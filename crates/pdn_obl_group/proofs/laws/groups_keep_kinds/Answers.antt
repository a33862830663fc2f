use Rattle.pdn_obl_group.proofs.KeepLaws.{distinct_keeps, group_keeps, count_keeps, cut_distinct_keeps, cut_group_keeps}
use Rattle.pdn_obl_group.proofs.laws.groups_keep_kinds.Goals as goal

pub returns : goal.returns
returns c = record { distinct = distinct_keeps; group = group_keeps; count = count_keeps; cut_distinct = cut_distinct_keeps; cut_group = cut_group_keeps }
