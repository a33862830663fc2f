use Rattle.std.proofs.Common.{◌∙◌, sym, arith}
use Rattle.std.proofs.lemmas.Result.{err_from_is_err_and}
use Rattle.pdn_sql.specs.Grammar.{join}
use Rattle.pdn_sql.proofs.Exact.{shorter}
use Rattle.pdn_sql.proofs.Loop.{loop_next, loop_fails, loop_done}
use Rattle.pdn_sql.proofs.Productions.{join_exact, join_full}
use Rattle.pdn_sql.proofs.reader.Reader.more_sources.Goals as goal

pub returns-in_err-join : goal.returns-in_err-join
returns-in_err-join c =
    let p = err_from_is_err_and c.from_residual-in_err-join.result c.from_residual-in_err-join.ensures.1 in
    rw (p.1, p.2) (loop_fails join c.in_err-join.field-0.0 c.loop-alloc.sources c.loop-alloc.self _ _ (sym c.at_join.ensures ∙ c.loop-alloc-test.true) c.in_err-join.ensures c.loop-alloc.invariant)

pub loop-alloc-smaller : goal.loop-alloc-smaller
loop-alloc-smaller c =
    let less = shorter join join_exact join_full c.loop-alloc.self (_, c.join.new.self) c.in_ok-join.ensures in
    omega arith

pub loop-alloc-preserved : goal.loop-alloc-preserved
loop-alloc-preserved c =
    rw c.in_ok-push-2.ensures.ok (loop_next join join_exact join_full c.loop-alloc.sources c.loop-alloc.self _ c.join.new.self _ (sym c.at_join.ensures ∙ c.loop-alloc-test.true) c.in_ok-join.ensures c.loop-alloc.invariant)

pub returns : goal.returns
returns c = loop_done join c.loop-alloc.sources c.loop-alloc.self _ (sym c.at_join.ensures ∙ c.loop-alloc-test.false) c.loop-alloc.invariant
