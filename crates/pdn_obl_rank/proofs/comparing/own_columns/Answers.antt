use Rattle.std.proofs.Common.{◌∙◌}
use Rattle.pdn_obl_rows.specs.Lists.{column_planes}
use Rattle.pdn_obl_rank.proofs.CompareLaws.{own_more}
use Rattle.pdn_obl_rank.proofs.comparing.own_columns.Goals as goal

pub loop-column-preserved : goal.loop-column-preserved
loop-column-preserved c =
    own_more (λ column. column_planes c.args.list.now.kinds column c.args.list.now.planes) c.loop-column.column c.loop-column.columns.items c.push.new.self.items c.in_ok-copy_column.field-0 c.loop-column.invariant c.in_ok-push.ensures.items
    (c.in_ok-copy_column.ensures ∙ c.column.ensures.planes)
