use Rattle.pdn_plan.proofs.Written.{said_written}
use Rattle.pdn_plan.proofs.laws.texts_are_written.Goals as goal

pub returns : goal.returns
returns c = said_written c.args.most c.args.bytes.now
