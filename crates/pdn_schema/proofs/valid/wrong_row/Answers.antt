use Rattle.pdn_schema.proofs.ValidLaws.{all_more, all_all}
use Rattle.pdn_schema.proofs.valid.wrong_row.Goals as goal

pub loop-i-preserved : goal.loop-i-preserved
loop-i-preserved c = all_more c.args.columns.now c.args.rows.now c.loop-i.i c.index-rows-i.result c.loop-i-test.true c.index-rows-i.is c.loop-i.invariant (rw c.values.ensures at c.in_default.ensures)

pub returns : goal.returns
returns c = all_all c.args.columns.now c.args.rows.now c.loop-i.i c.loop-i-test.false c.loop-i.invariant
