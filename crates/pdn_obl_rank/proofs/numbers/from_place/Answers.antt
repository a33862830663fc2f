use Rattle.std.proofs.Common.{arith, refl, ◌*◌, nat_le}
use Rattle.pdn_circuit.specs.Plain.{truth}
use Rattle.pdn_obl_rows.specs.Encoding.{word_of}
use Rattle.pdn_obl_rows.proofs.EncodingSteps.{word_more, double_small}
use Rattle.pdn_obl_rank.proofs.numbers.from_place.Goals as goal

pub loop-i-init : goal.loop-i-init
unfolding word_of
loop-i-init c = record { bits = refl; small = omega arith }

pub loop-i-preserved : goal.loop-i-preserved
loop-i-preserved c = record {
  bits = word_more (λ row. truth (nat_le c.args.place row)) (64 * c.args.word) 64 c.loop-i.i c.loop-i.bits c.later.result c.loop-i-test.true c.loop-i.invariant.bits c.later.ensures.lane;
  small = double_small c.loop-i.i c.loop-i.bits c.later.result c.loop-i.invariant.small c.later.ensures.bit;
}
