use Rattle.std.proofs.Common.{length, refl}
use Rattle.std.proofs.lemmas.Option.{slice_get_read}
use Rattle.pdn_schema.proofs.ValidLaws.{same_more, differ_more}
use Rattle.pdn_schema.proofs.valid.wrong_column.Goals as goal

pub loop-i-preserved : goal.loop-i-preserved
loop-i-preserved c = same_more c.args.columns.now c.args.values.now c.loop-i.i c.index-columns-i.result c.in-Some.value.now c.loop-i-test.true c.index-columns-i.is c.loop-i.invariant (let h = c.in-Some.ensures.lookup in slice_get_read c.args.values.now (length c.args.values.now) c.loop-i.i c.in-Some.value.now refl h.3.0 h.1) (c.is_of_kind.ensures.0 c.if-not-is_of_kind.false)

pub returns-then-columns-values : goal.returns-then-columns-values
returns-then-columns-values c = differ_more c.args.columns.now c.args.values.now c.loop-i.i c.loop-i-test.false c.loop-i.invariant c.if-columns-values.true c.loop-i.auto.i-end
