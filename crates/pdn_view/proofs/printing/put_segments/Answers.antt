use Rattle.pdn_view.proofs.LineLaws.{segments_next}
use Rattle.pdn_view.proofs.printing.put_segments.Goals as goal

pub loop-i-preserved : goal.loop-i-preserved
loop-i-preserved c = segments_next c.args.dirs.now c.loop-i.i c.index-dirs-i.result c.args.out.now.items c.loop-i.out.items _ c.loop-i-test.true c.index-dirs-i.is c.loop-i.invariant c.in_ok-put_segment_lines.ensures
