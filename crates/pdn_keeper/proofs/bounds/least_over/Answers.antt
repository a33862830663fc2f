use Rattle.pdn_keeper.proofs.BoundLaws.{least_done}
use Rattle.pdn_keeper.proofs.bounds.least_over.Goals as goal

pub returns : goal.returns
returns c = least_done c.args.column c.args.per c.args.rows.now c.loop-row.row-index c.loop-row.least c.loop-row-test.false c.loop-row.invariant
