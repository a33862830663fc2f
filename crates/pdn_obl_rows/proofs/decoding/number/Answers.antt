use Rattle.std.proofs.Common.{◌≡◌, ◌∙◌, ◌+◌, ◌-◌, ap₂, sym, refl, arith, ℕ}
use Rattle.pdn_obl_rows.specs.Encoding.{word_of}
use Rattle.pdn_obl_rows.proofs.DecodingLaws.{lane_of_plane, planes_number}
use Rattle.pdn_obl_rows.proofs.EncodingSteps.{word_more, double_small}
use Rattle.pdn_obl_rows.proofs.decoding.number.Goals as goal

pub loop-i-init : goal.loop-i-init
unfolding word_of
loop-i-init c = record { bits = refl; small = omega arith }

pub loop-i-preserved : goal.loop-i-preserved
loop-i-preserved c = record {
  bits = word_more (lane_of_plane c.args.words.now c.args.step c.args.row) c.args.first c.args.width c.loop-i.i c.loop-i.number c.bit.result c.loop-i-test.true c.loop-i.invariant.bits c.bit.ensures.bit;
  small = double_small c.loop-i.i c.loop-i.number c.bit.result c.loop-i.invariant.small c.bit.ensures.small;
}

pub returns : goal.returns
returns c =
    let done : c.loop-i.i ≡ c.args.width = omega arith in
    let at : c.args.first + (c.args.width - c.loop-i.i) ≡ c.args.first = omega arith in
    c.loop-i.invariant.bits ∙ ap₂ (λ m n. word_of (lane_of_plane c.args.words.now c.args.step c.args.row) m n) at done ∙ sym (planes_number c.args.words.now c.args.step c.args.row c.args.first c.args.width c.requires.row)
