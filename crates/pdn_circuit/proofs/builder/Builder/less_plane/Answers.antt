use Rattle.pdn_circuit.specs.Compare.{less_plane_gates}
use Rattle.pdn_circuit.proofs.Making.{exit_tries}
use Rattle.pdn_circuit.proofs.Comparing.{less_no_differ, less_no_change, less_no_changed, less_last}
use Rattle.pdn_circuit.proofs.builder.Builder.less_plane.Goals as goal

pub returns-in_err-differ-clause-made : goal.returns-in_err-differ-clause-made
returns-in_err-differ-clause-made c = exit_tries _ _ (less_plane_gates c.args.less c.args.x c.args.y) _ _ c.from_residual.ensures.1 (less_no_differ _ _ _ _ _ _ c.in_err-differ.ensures.made)

pub returns-in_err-change-clause-made : goal.returns-in_err-change-clause-made
returns-in_err-change-clause-made c = exit_tries _ _ (less_plane_gates c.args.less c.args.x c.args.y) _ _ c.from_residual-in_err-change.ensures.1 (less_no_change _ _ _ _ _ _ _ _ c.in_ok-differ.ensures.made c.in_err-change.ensures.made)

pub returns-in_err-changed-clause-made : goal.returns-in_err-changed-clause-made
returns-in_err-changed-clause-made c =
    exit_tries _ _ (less_plane_gates c.args.less c.args.x c.args.y) _ _ c.from_residual-in_err-changed.ensures.1 (less_no_changed _ _ _ _ _ _ _ _ _ _ c.in_ok-differ.ensures.made c.in_ok-change.ensures.made c.in_err-changed.ensures.made)

pub returns-clause-made : goal.returns-clause-made
returns-clause-made c = less_last _ _ _ _ _ _ _ _ _ _ _ _ c.in_ok-differ.ensures.made c.in_ok-change.ensures.made c.in_ok-changed.ensures.made c.xor-3.ensures.made
