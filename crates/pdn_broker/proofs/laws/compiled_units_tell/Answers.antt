use Rattle.pdn_broker.proofs.UnitLaws.{compiled_tell}
use Rattle.pdn_broker.proofs.laws.compiled_units_tell.Goals as goal

pub returns : goal.returns
returns c = compiled_tell
