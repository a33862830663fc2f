use Rattle.pdn_schema.proofs.PrintLaws.{columns_step}
use Rattle.pdn_schema.proofs.print.put_columns.Goals as goal

pub loop-c-preserved : goal.loop-c-preserved
loop-c-preserved c = columns_step c.args.columns.now c.loop-c.c-index c.c-item.result c.args.out.now.items c.loop-c.out.items _ c.loop-c-test.true c.c-item.is c.loop-c.invariant c.in_ok-put_column.ensures
