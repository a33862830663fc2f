use Rattle.pdn_circuit.proofs.Summing.{literal_grow}
use Rattle.pdn_circuit.proofs.sums.literal_planes.Goals as goal

pub loop-k-preserved : goal.loop-k-preserved
loop-k-preserved c = literal_grow c.args.number c.loop-k.k _ _ c.in_ok-push.ensures.items c.loop-k.invariant
