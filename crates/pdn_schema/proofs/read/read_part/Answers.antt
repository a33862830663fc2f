use Rattle.std.proofs.Common.{arith}
use Rattle.std.proofs.lemmas.Result.{err_from_is_err_and}
use Rattle.pdn_schema.proofs.Lines.{lines_pass, lines_next, lines_stop, lines_end}
use Rattle.pdn_schema.proofs.read.read_part.Goals as goal

pub loop-i-preserved-then-left-gt0 : goal.loop-i-preserved-then-left-gt0
loop-i-preserved-then-left-gt0 c = record {
  small = omega arith;
  rest = lines_pass c.loop-i.line c.loop-i.p c.args.bytes.now c.loop-i.i c.loop-i.left _ c.loop-i-test.true c.if-left-gt0.true c.loop-i.invariant.rest;
}

pub returns-in_err-p : goal.returns-in_err-p
returns-in_err-p c =
    let p = err_from_is_err_and c.from_residual.result c.from_residual.ensures.1 in
    rw (p.1, p.2) (lines_stop c.in_err-p.field-0.0 c.loop-i.line c.loop-i.p c.args.bytes.now c.loop-i.i c.loop-i.left c.line_len-left.result c.line_end-end.result _ c.loop-i-test.true c.if-left-gt0.false c.line_len-left.ensures.is c.line_end-end.ensures.is c.in_err-p.ensures c.loop-i.invariant.rest)

pub loop-i-preserved : goal.loop-i-preserved
loop-i-preserved c = record {
  small = omega arith;
  rest = lines_next c.loop-i.line c.loop-i.p c.in_ok-p.p c.args.bytes.now c.loop-i.i c.loop-i.left c.line_len-left.result c.line_end-end.result _ c.loop-i-test.true c.if-left-gt0.false c.line_len-left.ensures.is c.line_end-end.ensures.is c.in_ok-p.ensures c.loop-i.invariant.rest;
}

pub returns : goal.returns
returns c = lines_end c.finish.result c.loop-i.line c.loop-i.p c.args.bytes.now c.loop-i.i c.loop-i.left _ c.loop-i-test.false c.finish.ensures c.loop-i.invariant.rest
