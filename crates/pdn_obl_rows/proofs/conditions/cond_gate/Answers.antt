use Rattle.std.proofs.Common.{◌≡◌, ◌+◌, ◌∷◌, ◌∙◌, List, ap, sym, arith, length, drop}
use Rattle.std.proofs.lemmas.Bool.{eqb-true}
use Rattle.std.proofs.lemmas.List.{drop_more, drop_all}
use Rattle.pdn_base.specs.declared.cond.Cmp.{Cmp}
use Rattle.pdn_circuit.specs.Compare.{one_gate}
use Rattle.pdn_circuit.proofs.Making.{exit_tries, extends_longer}
use Rattle.pdn_obl_rows.specs.Conditions.{and_gates, clause_gates, cond_gates}
use Rattle.pdn_obl_rows.proofs.Walks.{some_there, joined_none, joined_no_first, joined_begin, joined_stops, joined_refused, joined_next, joined_end}
use Rattle.pdn_obl_rows.proofs.ThereLaws.{there_later}
use Rattle.pdn_obl_rows.proofs.conditions.cond_gate.Goals as goal

pub returns-then-is_empty-clause-made : goal.returns-then-is_empty-clause-made
returns-then-is_empty-clause-made c = joined_none (clause_gates c.args.list.now c.args.word) and_gates c.args.b.now one_gate c.args.clauses.now (eqb-true (length c.args.clauses.now) 0 (sym c.is_empty.ensures ∙ c.if-is_empty.true))

pub returns-in_err-all-clause-made : goal.returns-in_err-all-clause-made
returns-in_err-all-clause-made c =
    exit_tries _ _ (cond_gates c.args.list.now c.args.word c.args.clauses.now) _ _ c.from_residual.ensures.1
    (joined_no_first (clause_gates c.args.list.now c.args.word) and_gates _ one_gate c.comparisons.result.now c.args.clauses.now (drop 1 c.args.clauses.now) (drop_more c.args.clauses.now 0 c.index-clauses-0.result (some_there c.args.clauses.now _ c.is_empty.ensures c.if-is_empty.false) ∙ ap (λ (x : List Cmp). x ∷ drop (0 + 1) c.args.clauses.now) (sym (c.comparisons.ensures ∙ c.index-clauses-0.is))) _ _ c.in_err-all.ensures.made)

pub loop-k-init : goal.loop-k-init
loop-k-init c =
    let along = joined_begin (clause_gates c.args.list.now c.args.word) and_gates _ one_gate c.comparisons.result.now c.args.clauses.now (drop 1 c.args.clauses.now) (drop_more c.args.clauses.now 0 c.index-clauses-0.result (some_there c.args.clauses.now _ c.is_empty.ensures c.if-is_empty.false) ∙ ap (λ (x : List Cmp). x ∷ drop (0 + 1) c.args.clauses.now) (sym (c.comparisons.ensures ∙ c.index-clauses-0.is))) _ _ c.in_ok-all.ensures.made in
    record { along = along; longer = extends_longer _ _ along.stands; all = c.in_ok-all.ensures.there }

pub returns-in_err-next-clause-made : goal.returns-in_err-next-clause-made
returns-in_err-next-clause-made c =
    exit_tries _ _ (cond_gates c.args.list.now c.args.word c.args.clauses.now) _ _ c.from_residual-in_err-next.ensures.1
    (joined_stops (clause_gates c.args.list.now c.args.word) and_gates _ _ _ c.loop-k.all c.comparisons-in-loop-k.result.now (drop c.loop-k.k c.args.clauses.now) (drop (c.loop-k.k + 1) c.args.clauses.now) (drop_more c.args.clauses.now c.loop-k.k c.index-clauses-k.result c.loop-k-test.true ∙ ap (λ (x : List Cmp). x ∷ drop (c.loop-k.k + 1) c.args.clauses.now) (sym (c.comparisons-in-loop-k.ensures ∙ c.index-clauses-k.is))) c.loop-k.invariant.along _ _ c.in_err-next.ensures.made)

pub returns-in_err-all-2-clause-made : goal.returns-in_err-all-2-clause-made
returns-in_err-all-2-clause-made c =
    exit_tries _ _ (cond_gates c.args.list.now c.args.word c.args.clauses.now) _ _ c.from_residual-in_err-all-2.ensures.1
    (joined_refused (clause_gates c.args.list.now c.args.word) and_gates _ _ _ c.loop-k.all c.comparisons-in-loop-k.result.now (drop c.loop-k.k c.args.clauses.now) (drop (c.loop-k.k + 1) c.args.clauses.now) (drop_more c.args.clauses.now c.loop-k.k c.index-clauses-k.result c.loop-k-test.true ∙ ap (λ (x : List Cmp). x ∷ drop (c.loop-k.k + 1) c.args.clauses.now) (sym (c.comparisons-in-loop-k.ensures ∙ c.index-clauses-k.is))) c.loop-k.invariant.along _ _ _ _ c.in_ok-next.ensures.made c.in_err-all-2.ensures.made)

pub loop-k-preserved : goal.loop-k-preserved
loop-k-preserved c =
    let along = joined_next (clause_gates c.args.list.now c.args.word) and_gates _ _ _ c.loop-k.all c.comparisons-in-loop-k.result.now (drop c.loop-k.k c.args.clauses.now) (drop (c.loop-k.k + 1) c.args.clauses.now) (drop_more c.args.clauses.now c.loop-k.k c.index-clauses-k.result c.loop-k-test.true ∙ ap (λ (x : List Cmp). x ∷ drop (c.loop-k.k + 1) c.args.clauses.now) (sym (c.comparisons-in-loop-k.ensures ∙ c.index-clauses-k.is))) c.loop-k.invariant.along _ _ _ _ c.in_ok-next.ensures.made c.in_ok-all-2.ensures.made in
    record { along = along; longer = extends_longer _ _ along.stands; all = c.in_ok-all-2.ensures.there }

pub returns-clause-made : goal.returns-clause-made
returns-clause-made c = joined_end (clause_gates c.args.list.now c.args.word) and_gates _ _ _ c.loop-k.all _ (drop_all c.loop-k.k c.args.clauses.now c.loop-k-test.false) c.loop-k.invariant.along
