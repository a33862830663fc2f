use Rattle.std.proofs.Common.{rules}
use Rattle.pdn_twin.proofs.SectionWords.{differs_more}
use Rattle.pdn_twin.proofs.unit_twin.differing.Goals as goal

pub loop-k-preserved : goal.loop-k-preserved
loop-k-preserved c =
    differs_more c.args.old.now c.args.new.now c.loop-k.places.items c.push_where.new.places.items c.loop-k.k c.index-old-k.result c.index-new-k.result
    (search rules) c.requires c.loop-k.invariant (search rules) (search rules) c.in_ok-push_where.ensures
