use Rattle.pdn_schema.proofs.PrintLaws.{tables_step}
use Rattle.pdn_schema.proofs.print.put_tables.Goals as goal

pub loop-t-preserved : goal.loop-t-preserved
loop-t-preserved c = tables_step c.args.tables.now c.loop-t.t-index c.t-item.result c.args.out.now.items c.loop-t.out.items _ c.loop-t-test.true c.t-item.is c.loop-t.invariant c.in_ok-put_table.ensures
