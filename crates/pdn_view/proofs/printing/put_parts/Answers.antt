use Rattle.pdn_view.proofs.LineLaws.{parts_next}
use Rattle.pdn_view.proofs.printing.put_parts.Goals as goal

pub loop-i-preserved : goal.loop-i-preserved
loop-i-preserved c = parts_next c.args.first c.args.units.now c.loop-i.i c.index-units-i.result c.args.out.now.items c.loop-i.out.items _ c.loop-i-test.true c.index-units-i.is c.loop-i.invariant c.in_ok-put_part.ensures
