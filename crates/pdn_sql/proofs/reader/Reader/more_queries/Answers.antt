use Rattle.std.proofs.Common.{◌∙◌, sym, arith}
use Rattle.std.proofs.lemmas.Result.{err_from_is_err_and}
use Rattle.pdn_sql.specs.Grammar.{query}
use Rattle.pdn_sql.proofs.Exact.{shorter}
use Rattle.pdn_sql.proofs.Loop.{loop_next, loop_fails, loop_done}
use Rattle.pdn_sql.proofs.Productions.{query_exact, query_full}
use Rattle.pdn_sql.proofs.reader.Reader.more_queries.Goals as goal

pub returns-in_err-query : goal.returns-in_err-query
returns-in_err-query c =
    let p = err_from_is_err_and c.from_residual-in_err-query.result c.from_residual-in_err-query.ensures.1 in
    rw (p.1, p.2) (loop_fails query c.in_err-query.field-0.0 c.loop-alloc.queries.items c.loop-alloc.self _ _ (sym c.at_query.ensures ∙ c.loop-alloc-test.true) c.in_err-query.ensures c.loop-alloc.invariant)

pub loop-alloc-smaller : goal.loop-alloc-smaller
loop-alloc-smaller c =
    let less = shorter query query_exact query_full c.loop-alloc.self (_, c.query.new.self) c.in_ok-query.ensures in
    omega arith

pub loop-alloc-preserved : goal.loop-alloc-preserved
loop-alloc-preserved c =
    rw c.in_ok-push.ensures.items (loop_next query query_exact query_full c.loop-alloc.queries.items c.loop-alloc.self _ c.query.new.self _ (sym c.at_query.ensures ∙ c.loop-alloc-test.true) c.in_ok-query.ensures c.loop-alloc.invariant)

pub returns : goal.returns
returns c = loop_done query c.loop-alloc.queries.items c.loop-alloc.self _ (sym c.at_query.ensures ∙ c.loop-alloc-test.false) c.loop-alloc.invariant
