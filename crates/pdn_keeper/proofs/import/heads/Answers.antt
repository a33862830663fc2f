use Rattle.std.proofs.Common.{sym, ◌∙◌}
use Rattle.csv.specs.Records.{fields_of}
use Rattle.pdn_keeper.proofs.ImportLaws.{header_narrow, header_same, header_other, header_missing}
use Rattle.pdn_keeper.proofs.import.heads.Goals as goal

pub returns-then-len-columns : goal.returns-then-len-columns
returns-then-len-columns c = header_narrow c.args.columns.now (fields_of c.args.entry.now) (λ e. c.if-len-columns.true (c.len.ensures ∙ e))

pub returns-in_default : goal.returns-in_default
returns-in_default c = sym (c.loop-i.invariant ∙ header_missing c.args.columns.now (fields_of c.args.entry.now) c.loop-i.i c.index-columns-i.result c.loop-i-test.true c.index-columns-i.is (sym c.in_default.ensures.value))

pub returns-then-not-is_named : goal.returns-then-not-is_named
returns-then-not-is_named c =
    header_other c.args.columns.now (fields_of c.args.entry.now) c.loop-i.i c.index-columns-i.result c.in-Some.field.now c.loop-i-test.true c.index-columns-i.is (sym c.in-Some.ensures.value) (sym c.is_named.ensures ∙ c.if-not-is_named.true) c.loop-i.invariant

pub loop-i-preserved : goal.loop-i-preserved
loop-i-preserved c =
    header_same c.args.columns.now (fields_of c.args.entry.now) c.loop-i.i c.index-columns-i.result c.in-Some.field.now c.loop-i-test.true c.index-columns-i.is (sym c.in-Some.ensures.value) (sym c.is_named.ensures ∙ c.if-not-is_named.false) c.loop-i.invariant
