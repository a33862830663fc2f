use Rattle.std.proofs.Common.{◌≡◌, ◌+◌, List, length, drop, subst, arith}
use Rattle.std.specs.Prelude.{IfOk}
use Rattle.pdn_sql.specs.declared.token.Placed.{Placed}
use Rattle.pdn_sql.specs.Tokens.{tokens_from}
use Rattle.pdn_sql.specs.Marks.{marked}
use Rattle.pdn_sql.proofs.TokenLaws.{tokens_pass, tokens_next, tokens_cut, tokens_done}
use Rattle.pdn_sql.proofs.lexer.tokens.Goals as goal

pub loop-i-preserved-then-left-gt0 : goal.loop-i-preserved-then-left-gt0
loop-i-preserved-then-left-gt0 c = record {
  so_far = rw (← tokens_pass c.args.bytes.now c.loop-i.i c.loop-i.left c.loop-i-test.true c.if-left-gt0.true) c.loop-i.invariant.so_far;
  deep = omega (arith, c.loop-i.invariant.deep);
}

pub returns-then-branch : goal.returns-then-branch
returns-then-branch c =
    let h = tokens_next c.args.bytes.now c.loop-i.i c.loop-i.left c.loop-i.out.items c.put.new.out.items c.in_ok-found.found c.loop-i.seen c.put.new.seen c.in_ok-put.field-0 _ c.loop-i-test.true c.if-left-gt0.false c.in_ok-found.ensures c.in_ok-put.ensures.added c.loop-i.invariant.so_far in
    tokens_cut c.put.new.out.items (marked (length c.args.bytes.now) c.put.new.seen (tokens_from c.in_ok-found.found.more (c.loop-i.i + 1) (drop (c.loop-i.i + 1) c.args.bytes.now))) _ c.in_ok-put.field-0 c.if-branch.true h

pub loop-i-preserved : goal.loop-i-preserved
loop-i-preserved c =
    let h = tokens_next c.args.bytes.now c.loop-i.i c.loop-i.left c.loop-i.out.items c.put.new.out.items c.in_ok-found.found c.loop-i.seen c.put.new.seen c.in_ok-put.field-0 _ c.loop-i-test.true c.if-left-gt0.false c.in_ok-found.ensures c.in_ok-put.ensures.added c.loop-i.invariant.so_far in
    record {
      so_far = rw c.if-branch.false at h;
      deep = omega (arith, c.loop-i.invariant.deep, c.put.ensures.deep);
    }

pub returns : goal.returns
returns c = subst (λ (ts : List Placed). IfOk c.finish.result (λ v. v.items ≡ ts)) (tokens_done c.args.bytes.now c.loop-i.i c.loop-i.left c.loop-i.seen c.loop-i.out.items _ c.loop-i-test.false c.loop-i.invariant.so_far) c.finish.ensures
