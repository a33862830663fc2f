use Rattle.std.proofs.Common.{refl, subst, ℕ, List}
use Rattle.std.specs.Prelude.{slice_index}
use Rattle.pdn_circuit.specs.Building.{Builds}
use Rattle.pdn_circuit.specs.Compare.{not_gates}
use Rattle.pdn_circuit.proofs.Making.{exit_tries, builds_tries}
use Rattle.pdn_obl_rows.specs.Conditions.{and_gates}
use Rattle.pdn_obl_rows.proofs.Walks.{first_refused, second_tries}
use Rattle.pdn_obl_group.specs.Operators.{unmarked}
use Rattle.pdn_obl_group.proofs.repeats.unmarked.Goals as goal

pub returns-in_err-first-clause-made : goal.returns-in_err-first-clause-made
returns-in_err-first-clause-made c =
    let valid = c.args.list.now.valid in
    exit_tries _ _ (unmarked valid c.args.word c.args.dup) _ _ c.from_residual.ensures.1
    (first_refused _ _ (not_gates c.args.dup) (and_gates (slice_index valid c.args.word)) refl _ _ c.in_err-first.ensures.made)

pub returns-clause-made : goal.returns-clause-made
returns-clause-made c =
    let valid = c.args.list.now.valid in
    second_tries _ _ (not_gates c.args.dup) (and_gates (slice_index valid c.args.word)) refl _ _ _ _ c.in_ok-first.ensures.made
    (builds_tries _ _ (and_gates (slice_index valid c.args.word) c.in_ok-first.first) _
    (subst (λ (gates : List ℕ). Builds c.not.new.self c.and.new.self (and_gates (slice_index gates c.args.word) c.in_ok-first.first) c.and.result) c.valid.ensures.valid c.and.ensures.made))
