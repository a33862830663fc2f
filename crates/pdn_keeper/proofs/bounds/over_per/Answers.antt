use Rattle.pdn_schema.proofs.ValidLaws.{keeps_more, keeps_all}
use Rattle.pdn_keeper.proofs.bounds.over_per.Goals as goal

pub loop-i-preserved : goal.loop-i-preserved
loop-i-preserved c = keeps_more c.args.columns.now c.args.rows.now c.loop-i.i c.index-columns-i.result c.loop-i-test.true c.index-columns-i.is c.loop-i.invariant c.in_default.ensures

pub returns : goal.returns
returns c = keeps_all c.args.columns.now c.args.rows.now c.loop-i.i c.loop-i-test.false c.loop-i.invariant
