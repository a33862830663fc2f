use Rattle.std.proofs.Common.{refl, ap, subst, length, ℕ}
use Rattle.pdn_circuit.specs.Blocks.{Making}
use Rattle.pdn_circuit.specs.Building.{Stops, Tries}
use Rattle.pdn_circuit.proofs.Making.{exit_tries}
use Rattle.pdn_obl_rank.specs.Numbers.{hit_gates, from_place}
use Rattle.pdn_obl_rank.specs.Numbers.{RowLanes}
use Rattle.pdn_obl_rank.proofs.HitSteps.{same_hit, no_same, no_ties, no_before, no_both, last}
use Rattle.pdn_obl_rank.proofs.hits.hit.Goals as goal

pub returns-in_err-same-clause-made : goal.returns-in_err-same-clause-made
returns-in_err-same-clause-made c =
    exit_tries _ _ (hit_gates c.args.compared.now c.args.lanes.now.valid c.args.lanes.now.part c.args.lanes.now.key c.args.row c.args.word) _ _ c.from_residual.ensures.1 (subst (λ (m : Making ℕ). Stops c.args.b.now c.same_gate.new.b (m (length c.args.b.now.gates)) c.in_err-same.field-0.0)
    (same_hit c.args.compared.now c.args.lanes.now.valid _ c.part.result.now _ c.args.lanes.now.key _ (from_place c.args.row c.args.word) c.args.row c.args.word refl c.part.ensures refl refl) (no_same _ c.args.compared.now c.args.lanes.now.valid c.part.result.now c.args.lanes.now.key (from_place c.args.row c.args.word) c.args.word _ _ c.in_err-same.ensures.made))

pub returns-in_err-ties-clause-made : goal.returns-in_err-ties-clause-made
returns-in_err-ties-clause-made c =
    exit_tries _ _ (hit_gates c.args.compared.now c.args.lanes.now.valid c.args.lanes.now.part c.args.lanes.now.key c.args.row c.args.word) _ _ c.from_residual-in_err-ties.ensures.1 (subst (λ (m : Making ℕ). Stops c.args.b.now c.constant.new.self (m (length c.args.b.now.gates)) c.in_err-ties.field-0.0)
    (same_hit c.args.compared.now c.args.lanes.now.valid _ c.part.result.now _ c.args.lanes.now.key _ c.from_place.result c.args.row c.args.word refl c.part.ensures refl c.from_place.ensures) (no_ties _ c.args.compared.now c.args.lanes.now.valid c.part.result.now c.args.lanes.now.key c.from_place.result c.args.word _ _ c.in_ok-same.ensures.made _ _ c.in_err-ties.ensures.made))

pub returns-in_err-before-clause-made : goal.returns-in_err-before-clause-made
returns-in_err-before-clause-made c =
    exit_tries _ _ (hit_gates c.args.compared.now c.args.lanes.now.valid c.args.lanes.now.part c.args.lanes.now.key c.args.row c.args.word) _ _ c.from_residual-in_err-before.ensures.1 (subst (λ (m : Making ℕ). Stops c.args.b.now c.before_gate.new.b (m (length c.args.b.now.gates)) c.in_err-before.field-0.0)
    (same_hit c.args.compared.now c.args.lanes.now.valid _ c.part.result.now _ c.key.result.now _ c.from_place.result c.args.row c.args.word refl c.part.ensures c.key.ensures c.from_place.ensures) (no_before _ c.args.compared.now c.args.lanes.now.valid c.part.result.now c.key.result.now c.from_place.result c.args.word _ _ c.in_ok-same.ensures.made _ _ c.in_ok-ties.ensures.made _ _ c.in_err-before.ensures.made))

pub returns-in_err-both-clause-made : goal.returns-in_err-both-clause-made
returns-in_err-both-clause-made c =
    exit_tries _ _ (hit_gates c.args.compared.now c.args.lanes.now.valid c.args.lanes.now.part c.args.lanes.now.key c.args.row c.args.word) _ _ c.from_residual-in_err-both.ensures.1 (subst (λ (m : Making ℕ). Stops c.args.b.now c.and.new.self (m (length c.args.b.now.gates)) c.in_err-both.field-0.0)
    (same_hit c.args.compared.now c.args.lanes.now.valid _ c.part.result.now _ c.key.result.now _ c.from_place.result c.args.row c.args.word refl c.part.ensures c.key.ensures c.from_place.ensures) (no_both _ c.args.compared.now c.args.lanes.now.valid c.part.result.now c.key.result.now c.from_place.result c.args.word _ _ c.in_ok-same.ensures.made _ _ c.in_ok-ties.ensures.made _ _ c.in_ok-before.ensures.made _ _ c.in_err-both.ensures.made))

pub returns-clause-made : goal.returns-clause-made
returns-clause-made c = subst (λ (m : Making ℕ). Tries c.args.b.now c.and-2.new.self m c.and-2.result)
    (same_hit c.args.compared.now c.lanes.inside.valid _ c.part.result.now _ c.key.result.now _ c.from_place.result c.args.row c.args.word (ap (λ (l : RowLanes). l.valid) c.lanes.view_is) c.part.ensures c.key.ensures c.from_place.ensures) (last _ c.args.compared.now c.lanes.inside.valid c.part.result.now c.key.result.now c.from_place.result c.args.word _ _ c.in_ok-same.ensures.made _ _ c.in_ok-ties.ensures.made _ _ c.in_ok-before.ensures.made _ _ _ _ c.in_ok-both.ensures.made c.and-2.ensures.made)
