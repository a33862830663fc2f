use Rattle.std.proofs.Common.{◌∙◌, sym, arith}
use Rattle.std.proofs.lemmas.Result.{err_from_is_err_and}
use Rattle.pdn_sql.specs.Grammar.{next_order_name}
use Rattle.pdn_sql.proofs.Exact.{shorter}
use Rattle.pdn_sql.proofs.Loop.{loop_next, loop_fails, loop_done}
use Rattle.pdn_sql.proofs.Productions.{next_order_name_exact, next_order_name_full, next_order_name_begins}
use Rattle.pdn_sql.proofs.reader.Reader.more_order_names.Goals as goal

pub returns-in_err-next_order_name : goal.returns-in_err-next_order_name
returns-in_err-next_order_name c =
    let p = err_from_is_err_and c.from_residual-in_err-next_order_name.result c.from_residual-in_err-next_order_name.ensures.1 in
    rw (p.1, p.2) (loop_fails next_order_name c.in_err-next_order_name.field-0.0 c.loop-alloc.order c.loop-alloc.self _ _ (sym (next_order_name_begins c.loop-alloc.self) ∙ sym c.at_mark.ensures ∙ c.loop-alloc-test.true) c.in_err-next_order_name.ensures c.loop-alloc.invariant)

pub loop-alloc-smaller : goal.loop-alloc-smaller
loop-alloc-smaller c =
    let less = shorter next_order_name next_order_name_exact next_order_name_full c.loop-alloc.self (_, c.next_order_name.new.self) c.in_ok-next_order_name.ensures in
    omega arith

pub loop-alloc-preserved : goal.loop-alloc-preserved
loop-alloc-preserved c =
    rw c.in_ok-push-2.ensures.ok (loop_next next_order_name next_order_name_exact next_order_name_full c.loop-alloc.order c.loop-alloc.self _ c.next_order_name.new.self _ (sym (next_order_name_begins c.loop-alloc.self) ∙ sym c.at_mark.ensures ∙ c.loop-alloc-test.true) c.in_ok-next_order_name.ensures c.loop-alloc.invariant)

pub returns : goal.returns
returns c = loop_done next_order_name c.loop-alloc.order c.loop-alloc.self _ (sym (next_order_name_begins c.loop-alloc.self) ∙ sym c.at_mark.ensures ∙ c.loop-alloc-test.false) c.loop-alloc.invariant
