use Rattle.std.proofs.Common.{◌∙◌, sym, arith}
use Rattle.std.proofs.lemmas.Result.{err_from_is_err_and}
use Rattle.pdn_sql.specs.Grammar.{next_item}
use Rattle.pdn_sql.proofs.Exact.{shorter}
use Rattle.pdn_sql.proofs.Loop.{loop_next, loop_fails, loop_done}
use Rattle.pdn_sql.proofs.Productions.{next_item_exact, next_item_full, next_item_begins}
use Rattle.pdn_sql.proofs.reader.Reader.more_items.Goals as goal

pub returns-in_err-next_item : goal.returns-in_err-next_item
returns-in_err-next_item c =
    let p = err_from_is_err_and c.from_residual-in_err-next_item.result c.from_residual-in_err-next_item.ensures.1 in
    rw (p.1, p.2) (loop_fails next_item c.in_err-next_item.field-0.0 c.loop-alloc.items c.loop-alloc.self _ _ (sym (next_item_begins c.loop-alloc.self) ∙ sym c.at_mark.ensures ∙ c.loop-alloc-test.true) c.in_err-next_item.ensures c.loop-alloc.invariant)

pub loop-alloc-smaller : goal.loop-alloc-smaller
loop-alloc-smaller c =
    let less = shorter next_item next_item_exact next_item_full c.loop-alloc.self (_, c.next_item.new.self) c.in_ok-next_item.ensures in
    omega arith

pub loop-alloc-preserved : goal.loop-alloc-preserved
loop-alloc-preserved c =
    rw c.in_ok-push-2.ensures.ok (loop_next next_item next_item_exact next_item_full c.loop-alloc.items c.loop-alloc.self _ c.next_item.new.self _ (sym (next_item_begins c.loop-alloc.self) ∙ sym c.at_mark.ensures ∙ c.loop-alloc-test.true) c.in_ok-next_item.ensures c.loop-alloc.invariant)

pub returns : goal.returns
returns c = loop_done next_item c.loop-alloc.items c.loop-alloc.self _ (sym (next_item_begins c.loop-alloc.self) ∙ sym c.at_mark.ensures ∙ c.loop-alloc-test.false) c.loop-alloc.invariant
