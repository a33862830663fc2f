use Rattle.std.proofs.Common.{◌≡◌, ◌+◌, ◌∷◌, ◌∙◌, List, ap, sym, arith, length, drop}
use Rattle.std.proofs.lemmas.Bool.{eqb-true}
use Rattle.std.proofs.lemmas.List.{drop_more, drop_all}
use Rattle.pdn_base.specs.declared.cond.Cmp.{Cmp}
use Rattle.pdn_circuit.specs.Compare.{or_gates, zero_gate}
use Rattle.pdn_circuit.proofs.Making.{exit_tries, extends_longer}
use Rattle.pdn_obl_rows.specs.Conditions.{cmp_gates, clause_gates}
use Rattle.pdn_obl_rows.proofs.Walks.{some_there, joined_none, joined_no_first, joined_begin, joined_stops, joined_refused, joined_next, joined_end}
use Rattle.pdn_obl_rows.proofs.ThereLaws.{there_later}
use Rattle.pdn_obl_rows.proofs.conditions.clause_gate.Goals as goal

pub returns-then-is_empty-clause-made : goal.returns-then-is_empty-clause-made
returns-then-is_empty-clause-made c = joined_none (cmp_gates c.args.list.now c.args.word) or_gates c.args.b.now zero_gate c.args.clause.now (eqb-true (length c.args.clause.now) 0 (sym c.is_empty.ensures ∙ c.if-is_empty.true))

pub returns-in_err-any-clause-made : goal.returns-in_err-any-clause-made
returns-in_err-any-clause-made c =
    exit_tries _ _ (clause_gates c.args.list.now c.args.word c.args.clause.now) _ _ c.from_residual.ensures.1
    (joined_no_first (cmp_gates c.args.list.now c.args.word) or_gates _ zero_gate c.index-clause-0.result c.args.clause.now (drop 1 c.args.clause.now) (drop_more c.args.clause.now 0 c.index-clause-0.result (some_there c.args.clause.now _ c.is_empty.ensures c.if-is_empty.false) ∙ ap (λ (x : Cmp). x ∷ drop (0 + 1) c.args.clause.now) (sym c.index-clause-0.is)) _ _ c.in_err-any.ensures.made)

pub loop-k-init : goal.loop-k-init
loop-k-init c =
    let along = joined_begin (cmp_gates c.args.list.now c.args.word) or_gates _ zero_gate c.index-clause-0.result c.args.clause.now (drop 1 c.args.clause.now) (drop_more c.args.clause.now 0 c.index-clause-0.result (some_there c.args.clause.now _ c.is_empty.ensures c.if-is_empty.false) ∙ ap (λ (x : Cmp). x ∷ drop (0 + 1) c.args.clause.now) (sym c.index-clause-0.is)) _ _ c.in_ok-any.ensures.made in
    record { along = along; longer = extends_longer _ _ along.stands; any = c.in_ok-any.ensures.there }

pub cmp_gate-requires-in-loop-k-clause-there : goal.cmp_gate-requires-in-loop-k-clause-there
cmp_gate-requires-in-loop-k-clause-there c = there_later _ _ _ c.loop-k.invariant.longer c.requires.there

pub returns-in_err-next-clause-made : goal.returns-in_err-next-clause-made
returns-in_err-next-clause-made c =
    exit_tries _ _ (clause_gates c.args.list.now c.args.word c.args.clause.now) _ _ c.from_residual-in_err-next.ensures.1
    (joined_stops (cmp_gates c.args.list.now c.args.word) or_gates _ _ _ c.loop-k.any c.index-clause-k.result (drop c.loop-k.k c.args.clause.now) (drop (c.loop-k.k + 1) c.args.clause.now) (drop_more c.args.clause.now c.loop-k.k c.index-clause-k.result c.loop-k-test.true ∙ ap (λ (x : Cmp). x ∷ drop (c.loop-k.k + 1) c.args.clause.now) (sym c.index-clause-k.is)) c.loop-k.invariant.along _ _ c.in_err-next.ensures.made)

pub returns-in_err-any-2-clause-made : goal.returns-in_err-any-2-clause-made
returns-in_err-any-2-clause-made c =
    exit_tries _ _ (clause_gates c.args.list.now c.args.word c.args.clause.now) _ _ c.from_residual-in_err-any-2.ensures.1
    (joined_refused (cmp_gates c.args.list.now c.args.word) or_gates _ _ _ c.loop-k.any c.index-clause-k.result (drop c.loop-k.k c.args.clause.now) (drop (c.loop-k.k + 1) c.args.clause.now) (drop_more c.args.clause.now c.loop-k.k c.index-clause-k.result c.loop-k-test.true ∙ ap (λ (x : Cmp). x ∷ drop (c.loop-k.k + 1) c.args.clause.now) (sym c.index-clause-k.is)) c.loop-k.invariant.along _ _ _ _ c.in_ok-next.ensures.made c.in_err-any-2.ensures.made)

pub loop-k-preserved : goal.loop-k-preserved
loop-k-preserved c =
    let along = joined_next (cmp_gates c.args.list.now c.args.word) or_gates _ _ _ c.loop-k.any c.index-clause-k.result (drop c.loop-k.k c.args.clause.now) (drop (c.loop-k.k + 1) c.args.clause.now) (drop_more c.args.clause.now c.loop-k.k c.index-clause-k.result c.loop-k-test.true ∙ ap (λ (x : Cmp). x ∷ drop (c.loop-k.k + 1) c.args.clause.now) (sym c.index-clause-k.is)) c.loop-k.invariant.along _ _ _ _ c.in_ok-next.ensures.made c.in_ok-any-2.ensures.made in
    record { along = along; longer = extends_longer _ _ along.stands; any = c.in_ok-any-2.ensures.there }

pub returns-clause-made : goal.returns-clause-made
returns-clause-made c = joined_end (cmp_gates c.args.list.now c.args.word) or_gates _ _ _ c.loop-k.any _ (drop_all c.loop-k.k c.args.clause.now c.loop-k-test.false) c.loop-k.invariant.along
