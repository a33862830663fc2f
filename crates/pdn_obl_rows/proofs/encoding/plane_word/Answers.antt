use Rattle.std.proofs.Common.{arith, refl, ◌+◌, ◌*◌, ◌^◌, ◌≡◌, ◌<◌, pow-suc, suc}
use Rattle.pdn_obl_rows.specs.Encoding.{word_of, lanes_of}
use Rattle.pdn_obl_rows.proofs.EncodingSteps.{word_more, double_small}
use Rattle.pdn_obl_rows.proofs.encoding.plane_word.Goals as goal

pub loop-i-init : goal.loop-i-init
unfolding word_of
loop-i-init c = record { bits = refl; small = omega arith }

pub loop-i-preserved : goal.loop-i-preserved
loop-i-preserved c = record {
  bits = word_more (lanes_of c.args.rows.now c.args.lanes.now) c.args.from 64 c.loop-i.i c.loop-i.bits c.lane.result c.loop-i-test.true c.loop-i.invariant.bits c.lane.ensures.lane;
  small = double_small c.loop-i.i c.loop-i.bits c.lane.result c.loop-i.invariant.small c.lane.ensures.bit;
}
