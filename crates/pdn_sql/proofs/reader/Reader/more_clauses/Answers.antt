use Rattle.std.proofs.Common.{◌∙◌, sym, arith}
use Rattle.std.proofs.lemmas.Result.{err_from_is_err_and}
use Rattle.pdn_sql.specs.Grammar.{next_clause}
use Rattle.pdn_sql.proofs.Exact.{shorter}
use Rattle.pdn_sql.proofs.Loop.{loop_next, loop_fails, loop_done}
use Rattle.pdn_sql.proofs.Productions.{next_clause_exact, next_clause_full, next_clause_begins}
use Rattle.pdn_sql.proofs.reader.Reader.more_clauses.Goals as goal

pub returns-in_err-next_clause : goal.returns-in_err-next_clause
returns-in_err-next_clause c =
    let p = err_from_is_err_and c.from_residual-in_err-next_clause.result c.from_residual-in_err-next_clause.ensures.1 in
    rw (p.1, p.2) (loop_fails next_clause c.in_err-next_clause.field-0.0 c.loop-alloc.all c.loop-alloc.self _ _ (sym (next_clause_begins c.loop-alloc.self) ∙ sym c.at_word.ensures ∙ c.loop-alloc-test.true) c.in_err-next_clause.ensures c.loop-alloc.invariant)

pub loop-alloc-smaller : goal.loop-alloc-smaller
loop-alloc-smaller c =
    let less = shorter next_clause next_clause_exact next_clause_full c.loop-alloc.self (_, c.next_clause.new.self) c.in_ok-next_clause.ensures in
    omega arith

pub loop-alloc-preserved : goal.loop-alloc-preserved
loop-alloc-preserved c =
    rw c.in_ok-push-2.ensures.ok (loop_next next_clause next_clause_exact next_clause_full c.loop-alloc.all c.loop-alloc.self _ c.next_clause.new.self _ (sym (next_clause_begins c.loop-alloc.self) ∙ sym c.at_word.ensures ∙ c.loop-alloc-test.true) c.in_ok-next_clause.ensures c.loop-alloc.invariant)

pub returns : goal.returns
returns c = loop_done next_clause c.loop-alloc.all c.loop-alloc.self _ (sym (next_clause_begins c.loop-alloc.self) ∙ sym c.at_word.ensures ∙ c.loop-alloc-test.false) c.loop-alloc.invariant
