use Rattle.std.proofs.Common.{arith, ap, ◌<◌, ◌∙◌, ◌*◌, subst}
use Rattle.pdn_obl_rows.specs.Lists.{words_for}
use Rattle.pdn_obl_rows.specs.Encoding.{word_of, lanes_of}
use Rattle.pdn_obl_rows.proofs.EncodingSteps.{plane_more, few_words}
use Rattle.pdn_obl_rows.proofs.encoding.push_plane.Goals as goal

pub overflow_mul-j : goal.overflow_mul-j
overflow_mul-j c = omega (arith, few_words c.args.len c.loop-j.j (omega arith) (omega (arith, c.words_for-j-end.ensures)))

pub plane_word-requires-clause-from : goal.plane_word-requires-clause-from
plane_word-requires-clause-from c = omega (arith, few_words c.args.len c.loop-j.j (omega arith) (omega (arith, c.words_for-j-end.ensures)))

pub loop-j-preserved : goal.loop-j-preserved
loop-j-preserved c =
    plane_more (λ j. word_of (lanes_of c.args.rows.now c.args.lanes.now) (64 * j) 64) c.args.words.now.items c.loop-j.words.items c.push.new.self.items c.loop-j.j c.plane_word.result
    c.loop-j.invariant c.in_ok-push.ensures.items c.plane_word.ensures
