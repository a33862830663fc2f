use Rattle.std.proofs.Common.{length, refl, sym, ◌∙◌}
use Rattle.std.proofs.lemmas.Option.{slice_get_read}
use Rattle.pdn_keeper.proofs.CompareLaws.{same_next, differ_here, differ_past}
use Rattle.pdn_keeper.proofs.compare.first_difference.Goals as goal

pub returns-then-not-is_same-clause-first : goal.returns-then-not-is_same-clause-first
returns-then-not-is_same-clause-first c =
    let h = c.in-Some.ensures.lookup in
    differ_here c.args.kept.now c.args.rows.now c.loop-i.i c.index-kept-i.result c.in-Some.other.now c.loop-i-test.true c.index-kept-i.is
    (slice_get_read c.args.rows.now (length c.args.rows.now) c.loop-i.i c.in-Some.other.now refl h.3.0 h.1) (sym c.is_same.ensures ∙ c.if-not-is_same.true) c.loop-i.invariant

pub loop-i-preserved : goal.loop-i-preserved
loop-i-preserved c =
    let h = c.in-Some.ensures.lookup in
    same_next c.args.kept.now c.args.rows.now c.loop-i.i c.index-kept-i.result c.in-Some.other.now c.loop-i-test.true c.index-kept-i.is
    (slice_get_read c.args.rows.now (length c.args.rows.now) c.loop-i.i c.in-Some.other.now refl h.3.0 h.1) (sym c.is_same.ensures ∙ c.if-not-is_same.false) c.loop-i.invariant

pub returns-then-kept-rows-clause-first : goal.returns-then-kept-rows-clause-first
returns-then-kept-rows-clause-first c = differ_past c.args.kept.now c.args.rows.now c.loop-i.i c.loop-i-test.false c.loop-i.auto.i-end c.loop-i.invariant c.if-kept-rows.true
