use Rattle.pdn_site.proofs.CompiledParts.{parts_mean}
use Rattle.pdn_site.proofs.CompiledSlices.{slices_mean}
use Rattle.pdn_site.proofs.NetLaws.{net_means, answer_means}
use Rattle.pdn_site.proofs.QueryLaws.{query_means}
use Rattle.pdn_site.proofs.RootTakes.{circuits_take}
use Rattle.pdn_site.proofs.SegmentUnits.{directories_mean}
use Rattle.pdn_site.proofs.TopLaws.{tops_mean}
use Rattle.pdn_site.proofs.laws.queries_mean.Goals as goal

pub returns : goal.returns
returns c = record { directories = directories_mean; tops = tops_mean; query = query_means; parts = parts_mean; slices = slices_mean; takes = circuits_take; net = net_means; answer = answer_means }
