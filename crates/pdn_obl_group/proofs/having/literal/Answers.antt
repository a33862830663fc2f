use Rattle.pdn_circuit.proofs.Building.{two_there}
use Rattle.pdn_circuit.proofs.Summing.{literal_grow, literal_there}
use Rattle.pdn_obl_group.proofs.having.literal.Goals as goal

pub loop-bit-preserved : goal.loop-bit-preserved
loop-bit-preserved c = literal_grow c.args.number c.loop-bit.bit _ _ c.in_ok-push.ensures.items c.loop-bit.invariant

pub returns-clause-there : goal.returns-clause-there
returns-clause-there c = literal_there c.loop-bit.bit c.args.number _ _ c.loop-bit.invariant (two_there _ c.len-gates.ensures.kept.begins)
