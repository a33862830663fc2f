use Rattle.pdn_obl_rank.proofs.ColumnSteps.{sort_key_more}
use Rattle.pdn_obl_rank.proofs.keys.sort_key.Goals as goal

pub loop-column-preserved : goal.loop-column-preserved
loop-column-preserved c = sort_key_more c.args.order.now c.loop-column.column c.loop-column.keys.items c.push_remaining.new.keys.items c.loop-column.invariant c.in_ok-push_remaining.ensures
