use Rattle.pdn_agree.proofs.SpotLaws.{columns_next}
use Rattle.pdn_agree.proofs.spot.first_column.Goals as goal

pub loop-i-preserved : goal.loop-i-preserved
loop-i-preserved c = columns_next c.args.columns.now c.args.first.now c.args.second.now c.loop-i.i c.index-columns-i.result c.loop-i-test.true c.index-columns-i.is (c.differs.ensures.same c.if-differs.false) c.loop-i.invariant
