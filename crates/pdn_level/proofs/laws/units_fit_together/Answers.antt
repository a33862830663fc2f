use Rattle.pdn_level.proofs.UnitSums.{within_units}
use Rattle.pdn_level.proofs.laws.units_fit_together.Goals as goal

pub returns : goal.returns
returns c tables values sites wide sliced each few = within_units c.args.schema.now tables values sites c.args.node.now wide sliced each few
