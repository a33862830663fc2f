use Rattle.std.proofs.Common.{arith}
use Rattle.pdn_gmw.proofs.Layering.{max_over}
use Rattle.pdn_gmw.proofs.layers.rooms_of.Goals as goal

pub index_mut-requires : goal.index_mut-requires
index_mut-requires c =
    let long = c.loop-k.invariant.long in
    omega (arith, max_over c.args.depths.now 0 c.loop-k.k, long)
