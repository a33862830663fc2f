use Rattle.pdn_schema.proofs.PrintLaws.{callers_step}
use Rattle.pdn_schema.proofs.print.put_callers.Goals as goal

pub loop-c-preserved : goal.loop-c-preserved
loop-c-preserved c = callers_step c.args.callers.now c.loop-c.c-index c.c-item.result c.args.out.now.items c.loop-c.out.items _ c.loop-c-test.true c.c-item.is c.loop-c.invariant c.in_ok-put_caller.ensures
