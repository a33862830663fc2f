use Rattle.std.proofs.Common.{◌≡◌, ℕ, eqb, subst, sym, length}
use Rattle.std.proofs.lemmas.Bool.{cond-true, cond-false, eq-eqb, ne_eqb}
use Rattle.pdn_circuit.specs.declared.gate.Gate.TheVariants.{Const}
use Rattle.pdn_circuit.specs.Blocks.{Making, one, gives}
use Rattle.pdn_circuit.specs.Building.{Makes, Tries}
use Rattle.pdn_circuit.specs.Compare.{zero_gate}
use Rattle.pdn_circuit.proofs.Making.{builds_tries, makes_none}
use Rattle.pdn_obl_group.specs.Operators.{bit_plane}
use Rattle.pdn_obl_group.proofs.cutting.bit_plane.Goals as goal

set_is : (bit : ℕ) → bit ≡ 1 → bit_plane bit ≡ one (Const 1)
set_is bit e = cond-true (eqb bit 1) _ _ (eq-eqb bit 1 e)

clear_is : (bit : ℕ) → (bit ≡ 1 → ⊥) → bit_plane bit ≡ gives zero_gate
clear_is bit e = cond-false (eqb bit 1) _ _ (ne_eqb bit 1 e)

pub returns-then-bit-eq1-clause-made : goal.returns-then-bit-eq1-clause-made
returns-then-bit-eq1-clause-made c =
    subst (λ (m : Making ℕ). Tries c.args.b.now c.first_lane.new.b m c.first_lane.result) (sym (set_is c.args.bit c.if-bit-eq1.true)) (builds_tries _ _ (one (Const 1)) _ c.first_lane.ensures.made)

pub returns-else-bit-eq1-clause-made : goal.returns-else-bit-eq1-clause-made
returns-else-bit-eq1-clause-made c =
    let made = c.args.b.now in
    subst (λ (m : Making ℕ). Makes made made (m (length made.gates)) 0) (sym (clear_is c.args.bit c.if-bit-eq1.false)) (makes_none made 0)
