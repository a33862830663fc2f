use Rattle.pdn_sql.specs.Printing.{join_tokens}
use Rattle.pdn_sql.proofs.PrintLaws.{each_step}
use Rattle.pdn_sql.proofs.printed.put_joins.Goals as goal

pub loop-x-preserved : goal.loop-x-preserved
loop-x-preserved c = each_step join_tokens c.args.rest.now c.loop-x.x-index c.x-item.result c.args.out.now.items c.loop-x.out.items _ c.loop-x-test.true c.x-item.is c.loop-x.invariant c.in_ok-put_join.ensures
