use Rattle.pdn_sql.proofs.PrintLaws.{behind_step, behind_done}
use Rattle.pdn_sql.proofs.print.put_behind.Goals as goal

pub loop-next-preserved : goal.loop-next-preserved
loop-next-preserved c = behind_step c.args.rest.now c.loop-next.next-index c.loop-next.last.now c.next-item.result c.loop-next.out.items _ _ c.loop-next-test.true c.next-item.is c.loop-next.invariant c.in_ok-put_next.ensures

pub returns : goal.returns
returns c = behind_done c.args.rest.now c.loop-next.next-index c.loop-next.last.now c.loop-next.out.items _ c.loop-next-test.false c.loop-next.invariant
