use Rattle.std.proofs.Common.{ℕ, List, refl, subst, ap₂}
use Rattle.pdn_circuit.specs.Blocks.{Making, ◌>>=◌}
use Rattle.pdn_circuit.specs.Building.{Tries}
use Rattle.pdn_circuit.proofs.Making.{exit_tries}
use Rattle.pdn_obl_rows.specs.Conditions.{term_gates, operand_gates, compare_gates, cmp_gates}
use Rattle.pdn_obl_rows.proofs.Walks.{first_stops, second_stops, third_tries}
use Rattle.pdn_obl_rows.proofs.conditions.cmp_gate.Goals as goal

pub returns-in_err-left-clause-made : goal.returns-in_err-left-clause-made
returns-in_err-left-clause-made c =
    let list = c.args.list.now in
    let cmp = c.args.cmp.now in
    exit_tries _ _ (cmp_gates list c.args.word cmp) _ _ c.from_residual.ensures.1
    (first_stops _ _ (term_gates list c.args.word cmp.left) (λ x. operand_gates list c.args.word cmp.right >>= compare_gates cmp.op x) refl _ _ c.in_err-left.ensures.made)

pub returns-in_err-right-clause-made : goal.returns-in_err-right-clause-made
returns-in_err-right-clause-made c =
    let list = c.args.list.now in
    let cmp = c.args.cmp.now in
    exit_tries _ _ (cmp_gates list c.args.word cmp) _ _ c.from_residual-in_err-right.ensures.1
    (second_stops _ _ (term_gates list c.args.word cmp.left) (λ x. operand_gates list c.args.word cmp.right) (λ x y. compare_gates cmp.op x y) refl _ _ _ _ c.in_ok-left.ensures.made c.in_err-right.ensures.made)

pub returns-clause-made : goal.returns-clause-made
returns-clause-made c =
    let list = c.args.list.now in
    let cmp = c.args.cmp.now in
    third_tries _ _ (term_gates list c.args.word cmp.left) (λ x. operand_gates list c.args.word cmp.right) (λ x y. compare_gates cmp.op x y) refl _ _ _ _ _ _ c.in_ok-left.ensures.made c.in_ok-right.ensures.made
    (subst (λ (m : Making ℕ). Tries {A = ℕ} c.right_planes.new.b c.compare.new.b m c.compare.result) (ap₂ (λ (x y : List ℕ). compare_gates cmp.op x y) c.deref.ensures.value c.deref-2.ensures.value) c.compare.ensures.made)
