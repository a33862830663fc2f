use Rattle.std.proofs.Common.{◌≡◌, ◌-◌, None, Some, sym, arith}
use Rattle.std.proofs.lemmas.List.{append-nil}
use Rattle.pdn_schema.specs.Words.{word_piece}
use Rattle.pdn_schema.proofs.Cutting.{loop_pass, loop_piece, loop_end}
use Rattle.pdn_schema.proofs.WordLaws.{no_word, a_word}
use Rattle.pdn_schema.proofs.words.words.Goals as goal

pub loop-i-preserved-then-left-gt0 : goal.loop-i-preserved-then-left-gt0
loop-i-preserved-then-left-gt0 c = loop_pass word_piece c.args.line.now c.loop-i.i c.loop-i.left c.loop-i.out.items _ c.loop-i-test.true c.if-left-gt0.true c.loop-i.invariant

pub loop-i-preserved-then-n-eq0 : goal.loop-i-preserved-then-n-eq0
loop-i-preserved-then-n-eq0 c =
    let line = c.args.line.now in
    let zero_left : c.loop-i.left ≡ 0 = omega arith in
    rw zero_left (loop_piece word_piece line c.loop-i.i c.loop-i.left c.loop-i.out.items c.loop-i.out.items (record { more = 0; gives = None }) _ c.loop-i-test.true c.if-left-gt0.false (no_word line c.loop-i.i c.word_len-n.result c.word_len-n.ensures.is c.if-n-eq0.true) (sym (append-nil c.loop-i.out.items)) c.loop-i.invariant)

pub loop-i-preserved : goal.loop-i-preserved
loop-i-preserved c =
    let line = c.args.line.now in
    let added = rw (c.of.ensures, c.in_ok-from_slice.ensures.items) at c.in_ok-push.ensures.items in
    loop_piece word_piece line c.loop-i.i c.loop-i.left c.loop-i.out.items c.push.new.self.items (record { more = c.word_len-n.result - 1; gives = Some _ }) _ c.loop-i-test.true c.if-left-gt0.false (a_word line c.loop-i.i c.word_len-n.result c.word_len-n.ensures.is c.if-n-eq0.false) added c.loop-i.invariant

pub returns : goal.returns
returns c = loop_end word_piece c.args.line.now c.loop-i.i c.loop-i.left c.loop-i.out.items _ c.loop-i-test.false c.loop-i.invariant
