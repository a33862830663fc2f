use Rattle.std.proofs.Common.{◌∙◌, sym, arith}
use Rattle.std.proofs.lemmas.Result.{err_from_is_err_and}
use Rattle.pdn_sql.specs.Grammar.{next_col}
use Rattle.pdn_sql.proofs.Exact.{shorter}
use Rattle.pdn_sql.proofs.Loop.{loop_next, loop_fails, loop_done}
use Rattle.pdn_sql.proofs.Productions.{next_col_exact, next_col_full, next_col_begins}
use Rattle.pdn_sql.proofs.reader.Reader.more_cols.Goals as goal

pub returns-in_err-next_col : goal.returns-in_err-next_col
returns-in_err-next_col c =
    let p = err_from_is_err_and c.from_residual-in_err-next_col.result c.from_residual-in_err-next_col.ensures.1 in
    rw (p.1, p.2) (loop_fails next_col c.in_err-next_col.field-0.0 c.loop-alloc.cols c.loop-alloc.self _ _ (sym (next_col_begins c.loop-alloc.self) ∙ sym c.at_mark.ensures ∙ c.loop-alloc-test.true) c.in_err-next_col.ensures c.loop-alloc.invariant)

pub loop-alloc-smaller : goal.loop-alloc-smaller
loop-alloc-smaller c =
    let less = shorter next_col next_col_exact next_col_full c.loop-alloc.self (_, c.next_col.new.self) c.in_ok-next_col.ensures in
    omega arith

pub loop-alloc-preserved : goal.loop-alloc-preserved
loop-alloc-preserved c =
    rw c.in_ok-push-2.ensures.ok (loop_next next_col next_col_exact next_col_full c.loop-alloc.cols c.loop-alloc.self _ c.next_col.new.self _ (sym (next_col_begins c.loop-alloc.self) ∙ sym c.at_mark.ensures ∙ c.loop-alloc-test.true) c.in_ok-next_col.ensures c.loop-alloc.invariant)

pub returns : goal.returns
returns c = loop_done next_col c.loop-alloc.cols c.loop-alloc.self _ (sym (next_col_begins c.loop-alloc.self) ∙ sym c.at_mark.ensures ∙ c.loop-alloc-test.false) c.loop-alloc.invariant
