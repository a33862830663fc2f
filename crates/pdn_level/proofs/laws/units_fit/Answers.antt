use Rattle.std.proofs.Common.{List, subst}
use Rattle.std.specs.List.{AllByRecursion}
use Rattle.pdn_level.specs.declared.staged.Leaf.{Leaf}
use Rattle.pdn_level.specs.Slices.{Followed}
use Rattle.pdn_level.specs.Padding.{IsFew}
use Rattle.pdn_level.proofs.Tracks.{survey_track}
use Rattle.pdn_level.proofs.PaddingLaws.{within_padding, within_both, within_one}
use Rattle.pdn_level.proofs.laws.units_fit.Goals as goal

pub returns-clause-few : goal.returns-clause-few
returns-clause-few c tables sites v column wide sliced few =
    within_padding c.args.schema.now tables sites v c.args.node.now column wide sliced
    (subst (λ (l : Followed (List Leaf)). AllByRecursion (IsFew c.args.schema.now tables sites v) (l.at column)) (survey_track c.args.schema.now c.args.node.now) few)

pub returns-clause-secure : goal.returns-clause-secure
returns-clause-secure c a b v column va vb sliced = within_both c.args.schema.now a b v c.args.node.now column va vb sliced

pub returns-clause-plain : goal.returns-clause-plain
returns-clause-plain c tables v column valid sliced = within_one c.args.schema.now tables v c.args.node.now column valid sliced
