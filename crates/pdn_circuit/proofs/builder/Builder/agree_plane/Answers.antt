use Rattle.pdn_circuit.specs.Compare.{agree_plane_gates}
use Rattle.pdn_circuit.proofs.Making.{exit_tries}
use Rattle.pdn_circuit.proofs.Comparing.{agree_no_differ, agree_last}
use Rattle.pdn_circuit.proofs.builder.Builder.agree_plane.Goals as goal

pub returns-in_err-differ-clause-made : goal.returns-in_err-differ-clause-made
returns-in_err-differ-clause-made c = exit_tries _ _ (agree_plane_gates c.args.x c.args.y) _ _ c.from_residual.ensures.1 (agree_no_differ _ _ _ _ _ c.in_err-differ.ensures.made)

pub returns-clause-made : goal.returns-clause-made
returns-clause-made c = agree_last _ _ _ _ _ _ _ c.in_ok-differ.ensures.made c.not.ensures.made
