use Rattle.std.proofs.Common.{refl}
use Rattle.pdn_circuit.specs.Compare.{or_gates}
use Rattle.pdn_circuit.proofs.Making.{exit_tries, builds_tries}
use Rattle.pdn_obl_rows.proofs.Walks.{first_refused, second_tries}
use Rattle.pdn_obl_group.specs.Operators.{bit_gates, any_row}
use Rattle.pdn_obl_group.proofs.cutting.any_row.Goals as goal

pub returns-in_err-bit-clause-made : goal.returns-in_err-bit-clause-made
returns-in_err-bit-clause-made c =
    let list = c.args.list.now in
    exit_tries _ _ (any_row list c.args.row c.args.any) _ _ c.from_residual.ensures.1 (first_refused _ _ (bit_gates list c.args.row) (or_gates c.args.any) refl _ _ c.in_err-bit.ensures.made)

pub returns-clause-made : goal.returns-clause-made
returns-clause-made c =
    let list = c.args.list.now in
    second_tries _ _ (bit_gates list c.args.row) (or_gates c.args.any) refl _ _ _ _ c.in_ok-bit.ensures.made (builds_tries _ _ (or_gates c.args.any c.in_ok-bit.bit) _ c.or.ensures.made)
