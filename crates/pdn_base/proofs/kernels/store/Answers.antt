use Rattle.pdn_base.proofs.LaneLists.{four_put}
use Rattle.pdn_base.proofs.kernels.store.Goals as goal

pub returns : goal.returns
returns c = four_put c.args.out.now c.args.lanes c.args.at 0 c.requires.place c.requires.four
