use Rattle.std.proofs.Common.{length, refl}
use Rattle.pdn_circuit.proofs.PlainLaws.{values_satisfy_part}
use Rattle.pdn_circuit.proofs.laws.blocks_stand.Goals as goal

pub returns : goal.returns
returns c = record {
  number = λ inputs before more making order. record { at = length before; satisfied = values_satisfy_part inputs before (making (length before)).gates more order; gives = refl };
  numbers = λ inputs before more making order. record { at = length before; satisfied = values_satisfy_part inputs before (making (length before)).gates more order; gives = refl };
}
