use Rattle.std.proofs.Common.{ap, ◌∙◌}
use Rattle.pdn_plan.specs.Keeping.{deepened, stand_in}
use Rattle.pdn_plan.proofs.block.stand_in.Goals as goal

pub returns : goal.returns
unfolding stand_in
returns c = c.in_ok-deep.ensures ∙ ap (deepened 32) c.in_ok-tree.ensures
