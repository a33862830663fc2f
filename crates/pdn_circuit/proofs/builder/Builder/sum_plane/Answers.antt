use Rattle.pdn_circuit.specs.Compare.{sum_plane_gates}
use Rattle.pdn_circuit.proofs.Making.{exit_tries}
use Rattle.pdn_circuit.proofs.Summing.{no_u, no_v, no_both, no_sum, no_next, plane_made}
use Rattle.pdn_circuit.proofs.builder.Builder.sum_plane.Goals as goal

pub returns-in_err-u-clause-made : goal.returns-in_err-u-clause-made
returns-in_err-u-clause-made c = exit_tries _ _ (sum_plane_gates c.args.carry c.args.x c.args.y) _ _ c.from_residual.ensures.1 (no_u _ _ _ _ _ _ c.in_err-u.ensures.made)

pub returns-in_err-v-clause-made : goal.returns-in_err-v-clause-made
returns-in_err-v-clause-made c = exit_tries _ _ (sum_plane_gates c.args.carry c.args.x c.args.y) _ _ c.from_residual-in_err-v.ensures.1 (no_v _ _ _ _ _ _ c.in_ok-u.ensures.made _ _ c.in_err-v.ensures.made)

pub returns-in_err-both-clause-made : goal.returns-in_err-both-clause-made
returns-in_err-both-clause-made c =
    exit_tries _ _ (sum_plane_gates c.args.carry c.args.x c.args.y) _ _ c.from_residual-in_err-both.ensures.1 (no_both _ _ _ _ _ _ c.in_ok-u.ensures.made _ _ c.in_ok-v.ensures.made _ _ c.in_err-both.ensures.made)

pub returns-in_err-sum-clause-made : goal.returns-in_err-sum-clause-made
returns-in_err-sum-clause-made c =
    exit_tries _ _ (sum_plane_gates c.args.carry c.args.x c.args.y) _ _ c.from_residual-in_err-sum.ensures.1
    (no_sum _ _ _ _ _ _ c.in_ok-u.ensures.made _ _ c.in_ok-v.ensures.made _ _ c.in_ok-both.ensures.made _ _ c.in_err-sum.ensures.made)

pub returns-in_err-carry-clause-made : goal.returns-in_err-carry-clause-made
returns-in_err-carry-clause-made c =
    exit_tries _ _ (sum_plane_gates c.args.carry c.args.x c.args.y) _ _ c.from_residual-in_err-carry.ensures.1
    (no_next _ _ _ _ _ _ c.in_ok-u.ensures.made _ _ c.in_ok-v.ensures.made _ _ c.in_ok-both.ensures.made _ _ c.in_ok-sum.ensures.made _ _ c.in_err-carry.ensures.made)

pub returns-clause-made : goal.returns-clause-made
returns-clause-made c = plane_made _ _ _ _ _ _ c.in_ok-u.ensures.made _ _ c.in_ok-v.ensures.made _ _ c.in_ok-both.ensures.made _ _ c.in_ok-sum.ensures.made _ _ c.in_ok-carry.ensures.made
