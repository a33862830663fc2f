use Rattle.std.proofs.Common.{◌∙◌, ◌+◌, ◌∷◌, ℕ, List, ap, sym, arith, subst, length, drop, refl}
use Rattle.std.proofs.lemmas.List.{drop_more, drop_all}
use Rattle.pdn_circuit.specs.Blocks.{each}
use Rattle.pdn_circuit.specs.Building.{Makes, Refuses}
use Rattle.pdn_circuit.proofs.Making.{extends_longer, stops, along_memory}
use Rattle.pdn_obl_group.specs.Loops.{spread_gates}
use Rattle.pdn_obl_rows.proofs.Walks.{list_begin, list_stops, list_next, list_end}
use Rattle.pdn_obl_group.proofs.Steps.{exit_vec, none_there, push_there, pushed_count}
use Rattle.pdn_obl_group.proofs.rows.spread_planes.Goals as goal

pub loop-k-init : goal.loop-k-init
loop-k-init c = record {
  along = list_begin (spread_gates c.args.row) c.args.b.now c.args.planes.now _ c.new-gates.ensures.items;
  longer = omega arith;
  there = none_there _ _ c.new-gates.ensures.items;
  count = ap length c.new-gates.ensures.items;
}

pub returns-in_err-gate-clause-made : goal.returns-in_err-gate-clause-made
returns-in_err-gate-clause-made c =
    let planes = c.args.planes.now in
    let k = c.loop-k.k in
    let refused = subst (λ (plane : List ℕ). Refuses {A = ℕ} c.loop-k.b c.spread_lane.new.b (spread_gates c.args.row plane (length c.loop-k.b.gates)) c.in_err-gate.field-0.0) c.words.ensures c.in_err-gate.ensures.made in
    exit_vec _ _ (each (spread_gates c.args.row) planes) _ _ c.from_residual.ensures.1
    (list_stops (spread_gates c.args.row) _ _ _ _ c.index-planes-k.result (drop k planes) (drop (k + 1) planes) (drop_more planes k c.index-planes-k.result c.loop-k-test.true ∙ ap (λ (x : List ℕ). x ∷ drop (k + 1) planes) (sym c.index-planes-k.is)) c.loop-k.invariant.along _ _
    (stops {A = ℕ} _ _ (spread_gates c.args.row c.index-planes-k.result _) _ refused))

pub returns-in_err-push-clause-made : goal.returns-in_err-push-clause-made
returns-in_err-push-clause-made c =
    let planes = c.args.planes.now in
    let k = c.loop-k.k in
    let made = subst (λ (plane : List ℕ). Makes {A = ℕ} c.loop-k.b c.spread_lane.new.b (spread_gates c.args.row plane (length c.loop-k.b.gates)) c.in_ok-gate.gate) c.words.ensures c.in_ok-gate.ensures.made in
    exit_vec _ _ (each (spread_gates c.args.row) planes) _ _ c.from_residual-in_err-push.ensures.1
    (along_memory _ _ _ _ (list_next (spread_gates c.args.row) _ _ _ _ c.index-planes-k.result (drop k planes) (drop (k + 1) planes) (drop_more planes k c.index-planes-k.result c.loop-k-test.true ∙ ap (λ (x : List ℕ). x ∷ drop (k + 1) planes) (sym c.index-planes-k.is)) c.loop-k.invariant.along
    _ _ _ made refl))

pub loop-k-preserved : goal.loop-k-preserved
loop-k-preserved c =
    let planes = c.args.planes.now in
    let k = c.loop-k.k in
    let made = subst (λ (plane : List ℕ). Makes {A = ℕ} c.loop-k.b c.spread_lane.new.b (spread_gates c.args.row plane (length c.loop-k.b.gates)) c.in_ok-gate.gate) c.words.ensures c.in_ok-gate.ensures.made in
    let along = list_next (spread_gates c.args.row) _ _ _ _ c.index-planes-k.result (drop k planes) (drop (k + 1) planes) (drop_more planes k c.index-planes-k.result c.loop-k-test.true ∙ ap (λ (x : List ℕ). x ∷ drop (k + 1) planes) (sym c.index-planes-k.is)) c.loop-k.invariant.along
    _ _ _ made c.in_ok-push.ensures.items in
    record {
      along = along;
      longer = extends_longer _ _ along.stands;
      there = push_there _ _ _ _ c.in_ok-push.ensures.items made c.loop-k.invariant.there c.in_ok-gate.ensures.there;
      count = pushed_count _ _ _ _ c.in_ok-push.ensures.items c.loop-k.invariant.count;
    }

pub returns-clause-made : goal.returns-clause-made
returns-clause-made c = list_end (spread_gates c.args.row) _ _ _ _ (drop c.loop-k.k c.args.planes.now) (drop_all c.loop-k.k c.args.planes.now c.loop-k-test.false) c.loop-k.invariant.along
