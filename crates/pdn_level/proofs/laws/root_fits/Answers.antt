use Rattle.pdn_level.proofs.RootLaws.{within_root}
use Rattle.pdn_level.proofs.laws.root_fits.Goals as goal

pub returns : goal.returns
returns c a b units va vb fit = within_root c.args.schema.now a b units va vb c.args.node.now fit
