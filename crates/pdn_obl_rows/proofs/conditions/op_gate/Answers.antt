use Rattle.std.proofs.Common.{ap}
use Rattle.pdn_circuit.specs.Compare.{equal_gates, less_gates, not_gates, zero_gate}
use Rattle.pdn_circuit.proofs.Making.{exit_tries, builds_tries}
use Rattle.pdn_obl_rows.proofs.Walks.{first_refused, second_tries}
use Rattle.pdn_obl_rows.specs.Conditions.{op_gates}
use Rattle.pdn_base.specs.declared.cond.Op.{Op}
use Rattle.pdn_obl_rows.proofs.conditions.op_gate.Goals as goal

pub returns-in_err-equal-in-Ne-clause-made : goal.returns-in_err-equal-in-Ne-clause-made
returns-in_err-equal-in-Ne-clause-made c =
    exit_tries _ _ (op_gates c.args.op c.args.x.now c.args.y.now) _ _ c.from_residual.ensures.1 (first_refused _ _ (equal_gates c.args.x.now c.args.y.now) not_gates (ap (λ (o : Op). op_gates o c.args.x.now c.args.y.now) c.in-Ne.is) _ _ c.in_err-equal-in-Ne.ensures.made)

pub returns-in_err-greater-in-Le-clause-made : goal.returns-in_err-greater-in-Le-clause-made
returns-in_err-greater-in-Le-clause-made c =
    exit_tries _ _ (op_gates c.args.op c.args.x.now c.args.y.now) _ _ c.from_residual-in_err-greater-in-Le.ensures.1 (first_refused _ _ (less_gates zero_gate c.args.y.now c.args.x.now) not_gates (ap (λ (o : Op). op_gates o c.args.x.now c.args.y.now) c.in-Le.is) _ _ c.in_err-greater-in-Le.ensures.made)

pub returns-in_err-less-in-Ge-clause-made : goal.returns-in_err-less-in-Ge-clause-made
returns-in_err-less-in-Ge-clause-made c =
    exit_tries _ _ (op_gates c.args.op c.args.x.now c.args.y.now) _ _ c.from_residual-in_err-less-in-Ge.ensures.1 (first_refused _ _ (less_gates zero_gate c.args.x.now c.args.y.now) not_gates (ap (λ (o : Op). op_gates o c.args.x.now c.args.y.now) c.in-Ge.is) _ _ c.in_err-less-in-Ge.ensures.made)

pub returns-in_ok-equal-in-Ne-clause-made : goal.returns-in_ok-equal-in-Ne-clause-made
returns-in_ok-equal-in-Ne-clause-made c = second_tries _ _ (equal_gates c.args.x.now c.args.y.now) not_gates (ap (λ (o : Op). op_gates o c.args.x.now c.args.y.now) c.in-Ne.is) _ _ _ _ c.in_ok-equal-in-Ne.ensures.made (builds_tries _ _ (not_gates c.in_ok-equal-in-Ne.equal) _ c.not.ensures.made)

pub returns-in_ok-greater-in-Le-clause-made : goal.returns-in_ok-greater-in-Le-clause-made
returns-in_ok-greater-in-Le-clause-made c =
    second_tries _ _ (less_gates zero_gate c.args.y.now c.args.x.now) not_gates (ap (λ (o : Op). op_gates o c.args.x.now c.args.y.now) c.in-Le.is) _ _ _ _ c.in_ok-greater-in-Le.ensures.made (builds_tries _ _ (not_gates c.in_ok-greater-in-Le.greater) _ c.not-in-Le.ensures.made)

pub returns-in_ok-less-in-Ge-clause-made : goal.returns-in_ok-less-in-Ge-clause-made
returns-in_ok-less-in-Ge-clause-made c =
    second_tries _ _ (less_gates zero_gate c.args.x.now c.args.y.now) not_gates (ap (λ (o : Op). op_gates o c.args.x.now c.args.y.now) c.in-Ge.is) _ _ _ _ c.in_ok-less-in-Ge.ensures.made (builds_tries _ _ (not_gates c.in_ok-less-in-Ge.less) _ c.not-in-Ge.ensures.made)
