use Rattle.std.proofs.Common.{List, ℕ, subst}
use Rattle.pdn_circuit.specs.Building.{Tries}
use Rattle.pdn_circuit.specs.Compare.{equal_gates, all_of_gates}
use Rattle.pdn_circuit.proofs.Making.{exit_tries}
use Rattle.pdn_circuit.proofs.Comparing.{equal_stops, equal_last}
use Rattle.pdn_circuit.proofs.builder.Builder.equal_steps.Goals as goal

pub returns-in_err-agree-clause-made : goal.returns-in_err-agree-clause-made
returns-in_err-agree-clause-made c = exit_tries _ _ (equal_gates c.args.x.now c.args.y.now) _ _ c.from_residual.ensures.1 (equal_stops _ _ _ _ _ c.in_err-agree.ensures.made)

pub returns-clause-made : goal.returns-clause-made
returns-clause-made c =
    equal_last _ _ _ _ _ _ _ c.in_ok-agree.ensures.made
    (subst (λ (ps : List ℕ). Tries {A = ℕ} c.agree.new.self c.all_of.new.self (all_of_gates ps) c.all_of.result) c.deref.ensures.value c.all_of.ensures.made)
