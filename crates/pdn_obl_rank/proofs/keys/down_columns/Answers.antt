use Rattle.std.proofs.Common.{false}
use Rattle.pdn_obl_rank.proofs.ColumnSteps.{down_more}
use Rattle.pdn_obl_rank.proofs.keys.down_columns.Goals as goal

pub loop-k-preserved : goal.loop-k-preserved
loop-k-preserved c = down_more c.args.order.now c.loop-k.k (record { column = 0; down = false }) c.loop-k.downs.items c.push_down.new.downs.items c.loop-k-test.true c.loop-k.invariant c.in_ok-push_down.ensures
