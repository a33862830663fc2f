use Rattle.std.proofs.Common.{◌∙◌, sym, arith}
use Rattle.std.proofs.lemmas.Result.{err_from_is_err_and}
use Rattle.pdn_sql.specs.Grammar.{next_cmp}
use Rattle.pdn_sql.proofs.Exact.{shorter}
use Rattle.pdn_sql.proofs.Loop.{loop_next, loop_fails, loop_done}
use Rattle.pdn_sql.proofs.Productions.{next_cmp_exact, next_cmp_full, next_cmp_begins}
use Rattle.pdn_sql.proofs.reader.Reader.more_cmps.Goals as goal

pub returns-in_err-next_cmp : goal.returns-in_err-next_cmp
returns-in_err-next_cmp c =
    let p = err_from_is_err_and c.from_residual-in_err-next_cmp.result c.from_residual-in_err-next_cmp.ensures.1 in
    rw (p.1, p.2) (loop_fails next_cmp c.in_err-next_cmp.field-0.0 c.loop-alloc.any c.loop-alloc.self _ _ (sym (next_cmp_begins c.loop-alloc.self) ∙ sym c.at_word.ensures ∙ c.loop-alloc-test.true) c.in_err-next_cmp.ensures c.loop-alloc.invariant)

pub loop-alloc-smaller : goal.loop-alloc-smaller
loop-alloc-smaller c =
    let less = shorter next_cmp next_cmp_exact next_cmp_full c.loop-alloc.self (_, c.next_cmp.new.self) c.in_ok-next_cmp.ensures in
    omega arith

pub loop-alloc-preserved : goal.loop-alloc-preserved
loop-alloc-preserved c =
    rw c.in_ok-push-2.ensures.ok (loop_next next_cmp next_cmp_exact next_cmp_full c.loop-alloc.any c.loop-alloc.self _ c.next_cmp.new.self _ (sym (next_cmp_begins c.loop-alloc.self) ∙ sym c.at_word.ensures ∙ c.loop-alloc-test.true) c.in_ok-next_cmp.ensures c.loop-alloc.invariant)

pub returns : goal.returns
returns c = loop_done next_cmp c.loop-alloc.any c.loop-alloc.self _ (sym (next_cmp_begins c.loop-alloc.self) ∙ sym c.at_word.ensures ∙ c.loop-alloc-test.false) c.loop-alloc.invariant
