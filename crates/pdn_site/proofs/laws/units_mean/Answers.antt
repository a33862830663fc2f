use Rattle.pdn_site.proofs.LeafLaws.{leaf_means}
use Rattle.pdn_site.proofs.OutputLaws.{output_means}
use Rattle.pdn_site.proofs.RootLaws.{root_means}
use Rattle.pdn_site.proofs.UnitLaws.{unit_means}
use Rattle.pdn_site.proofs.laws.units_mean.Goals as goal

pub returns : goal.returns
returns c = record { leaf = leaf_means; unit = unit_means; output = output_means; root = root_means }
