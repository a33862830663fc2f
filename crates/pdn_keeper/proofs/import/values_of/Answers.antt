use Rattle.std.proofs.Common.{sym}
use Rattle.csv.specs.Records.{fields_of}
use Rattle.pdn_keeper.proofs.ImportLaws.{row_next, row_bad, row_missing}
use Rattle.pdn_keeper.proofs.import.values_of.Goals as goal

pub returns-in_default : goal.returns-in_default
returns-in_default c = sym (row_missing c.args.columns.now (fields_of c.args.entry.now) c.loop-i.i c.index-columns-i.result c.loop-i.values.items c.loop-i-test.true c.index-columns-i.is (sym c.in_default.ensures.value) c.loop-i.invariant)

pub returns-in_default-value_of : goal.returns-in_default-value_of
returns-in_default-value_of c =
    sym (row_bad c.args.columns.now (fields_of c.args.entry.now) c.loop-i.i c.index-columns-i.result c.in-Some.field.now c.loop-i.values.items c.loop-i-test.true c.index-columns-i.is (sym c.in-Some.ensures.value) (sym c.in_default-value_of.ensures) c.loop-i.invariant)

pub loop-i-preserved : goal.loop-i-preserved
loop-i-preserved c =
    rw c.in_ok-push.ensures.items (row_next c.args.columns.now (fields_of c.args.entry.now) c.loop-i.i c.index-columns-i.result c.in-Some.field.now c.loop-i.values.items c.in-Some-value_of.value c.loop-i-test.true c.index-columns-i.is (sym c.in-Some.ensures.value) (sym c.in-Some-value_of.ensures) c.loop-i.invariant)
