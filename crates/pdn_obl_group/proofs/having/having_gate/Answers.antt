use Rattle.std.proofs.Common.{ℕ, Option, Some, sym, subst, length}
use Rattle.pdn_circuit.specs.Building.{Makes, Tries}
use Rattle.pdn_circuit.proofs.Making.{makes_none}
use Rattle.pdn_obl_group.specs.Operators.{having_gates}
use Rattle.pdn_obl_group.proofs.having.having_gate.Goals as goal

pub returns-in-None-clause-made : goal.returns-in-None-clause-made
returns-in-None-clause-made c =
    let made = c.args.b.now in
    subst (λ (o : Option ℕ). Makes made made (having_gates o c.args.valid c.args.count.now (length made.gates)) c.args.valid) (sym c.in-None.is) (makes_none made c.args.valid)

pub returns-in-Some-clause-made : goal.returns-in-Some-clause-made
returns-in-Some-clause-made c =
    subst (λ (o : Option ℕ). Tries {A = ℕ} c.args.b.now c.enough.new.b (having_gates o c.args.valid c.args.count.now) c.enough.result) (sym c.in-Some.is)
    (subst (λ (n : ℕ). Tries {A = ℕ} c.args.b.now c.enough.new.b (having_gates (Some n) c.args.valid c.args.count.now) c.enough.result) c.from.ensures c.enough.ensures.made)
