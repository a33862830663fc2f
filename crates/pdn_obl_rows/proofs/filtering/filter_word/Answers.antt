use Rattle.std.proofs.Common.{refl, subst, ap, ℕ, List}
use Rattle.std.specs.Prelude.{slice_index}
use Rattle.pdn_circuit.specs.Building.{Builds}
use Rattle.pdn_circuit.proofs.Making.{exit_tries, builds_tries}
use Rattle.pdn_obl_rows.specs.Conditions.{and_gates, cond_gates}
use Rattle.pdn_obl_rows.specs.Operators.{filter_word}
use Rattle.pdn_obl_rows.proofs.Walks.{first_stops, second_tries}
use Rattle.pdn_obl_rows.proofs.filtering.filter_word.Goals as goal

pub returns-in_err-meets-clause-made : goal.returns-in_err-meets-clause-made
returns-in_err-meets-clause-made c =
    let list = c.args.list.now in
    exit_tries _ _ (filter_word list c.args.clauses.now c.args.word) _ _ c.from_residual.ensures.1
    (first_stops _ _ (cond_gates list c.args.word c.args.clauses.now) (λ meets. and_gates (slice_index list.valid c.args.word) meets) refl _ _ c.in_err-meets.ensures.made)

pub returns-clause-made : goal.returns-clause-made
returns-clause-made c =
    let list = c.args.list.now in
    second_tries _ _ (cond_gates list c.args.word c.args.clauses.now) (λ meets. and_gates (slice_index list.valid c.args.word) meets) refl _ _ _ _ c.in_ok-meets.ensures.made
    (builds_tries _ _ (and_gates (slice_index list.valid c.args.word) c.in_ok-meets.meets) _
    (subst (λ (gates : List ℕ). Builds c.cond_gate.new.b c.and.new.self (and_gates (slice_index gates c.args.word) c.in_ok-meets.meets) c.and.result) c.valid.ensures.valid c.and.ensures.made))
