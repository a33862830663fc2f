use Rattle.pdn_obl_rows.proofs.EncodingSteps.{column_more}
use Rattle.pdn_obl_rows.proofs.encoding.push_column.Goals as goal

pub loop-bit-preserved : goal.loop-bit-preserved
loop-bit-preserved c =
    column_more c.args.rows.now c.args.len c.args.column c.loop-bit.bit c.args.words.now.items c.loop-bit.words.items c.push_plane.new.words.items c.loop-bit.invariant c.in_ok-push_plane.ensures
