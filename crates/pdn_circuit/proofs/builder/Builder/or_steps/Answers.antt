use Rattle.pdn_circuit.specs.Compare.{or_gates}
use Rattle.pdn_circuit.proofs.Making.{exit_tries}
use Rattle.pdn_circuit.proofs.Comparing.{or_no_both, or_no_differ, or_last}
use Rattle.pdn_circuit.proofs.builder.Builder.or_steps.Goals as goal

pub returns-in_err-both-clause-made : goal.returns-in_err-both-clause-made
returns-in_err-both-clause-made c = exit_tries _ _ (or_gates c.args.x c.args.y) _ _ c.from_residual.ensures.1 (or_no_both _ _ _ _ _ c.in_err-both.ensures.made)

pub returns-in_err-differ-clause-made : goal.returns-in_err-differ-clause-made
returns-in_err-differ-clause-made c = exit_tries _ _ (or_gates c.args.x c.args.y) _ _ c.from_residual-in_err-differ.ensures.1 (or_no_differ _ _ _ _ _ _ _ c.in_ok-both.ensures.made c.in_err-differ.ensures.made)

pub returns-clause-made : goal.returns-clause-made
returns-clause-made c = or_last _ _ _ _ _ _ _ _ _ c.in_ok-both.ensures.made c.in_ok-differ.ensures.made c.xor-2.ensures.made
