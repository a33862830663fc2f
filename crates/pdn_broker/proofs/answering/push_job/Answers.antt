use Rattle.std.proofs.Common.{◌<◌, length, sym, subst}
use Rattle.pdn_broker.specs.Prepared.{PreparedModel}
use Rattle.pdn_broker.proofs.answering.push_job.Goals as goal

pub unit_at-requires : goal.unit_at-requires
unit_at-requires g c = subst (λ (p : PreparedModel). c.args.at.unit < length p.units) (sym c.prepared.view_is) c.requires
