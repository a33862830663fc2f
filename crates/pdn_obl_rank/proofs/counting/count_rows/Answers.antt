use Rattle.std.proofs.Common.{length, ap, subst, ◌∙◌, List, ℕ}
use Rattle.pdn_circuit.specs.Building.{Makes, Stops}
use Rattle.pdn_circuit.proofs.Making.{extends_longer}
use Rattle.pdn_obl_group.specs.Loops.{in_turn}
use Rattle.pdn_obl_rank.specs.Numbers.{row_gates}
use Rattle.pdn_obl_rank.proofs.Looping.{exit_items, turn_stops, turn_next, turn_end}
use Rattle.pdn_obl_rank.proofs.ThereLaws.{row_gates_count}
use Rattle.pdn_obl_rank.proofs.counting.count_rows.Goals as goal

pub returns-in_err-counters-clause-made : goal.returns-in_err-counters-clause-made
returns-in_err-counters-clause-made c =
    exit_items _ _ (in_turn (row_gates c.args.compared.now) 0 c.args.len c.args.none.items) _ _ c.from_residual.ensures.1
    (turn_stops (row_gates c.args.compared.now) _ _ _ c.args.len c.loop-row.row c.loop-row.counters.items c.loop-row-test.true c.loop-row.invariant.along _ _
    (subst (λ (xs : List (List ℕ)). Stops c.loop-row.b c.count_row.new.b (row_gates c.args.compared.now c.loop-row.row xs (length c.loop-row.b.gates)) c.in_err-counters.field-0.0) c.as_slice.ensures.value c.in_err-counters.ensures.made))

pub loop-row-preserved : goal.loop-row-preserved
loop-row-preserved c =
    let made = subst (λ (xs : List (List ℕ)). Makes c.loop-row.b c.count_row.new.b (row_gates c.args.compared.now c.loop-row.row xs (length c.loop-row.b.gates)) c.in_ok-counters.counters.items) c.as_slice.ensures.value c.in_ok-counters.ensures.made in
    let along = turn_next (row_gates c.args.compared.now) _ _ _ c.args.len c.loop-row.row c.loop-row.counters.items c.loop-row-test.true c.loop-row.invariant.along _ _ made in
    record {
      along = along;
      longer = extends_longer _ _ along.stands;
      there = c.in_ok-counters.ensures.there;
      count = ap length made.gives ∙ row_gates_count c.args.compared.now c.loop-row.row (length c.loop-row.b.gates) c.loop-row.counters.items ∙ c.loop-row.invariant.count;
    }

pub returns-clause-made : goal.returns-clause-made
returns-clause-made c = turn_end (row_gates c.args.compared.now) _ _ _ c.args.len c.loop-row.row c.loop-row.counters.items c.loop-row-test.false c.loop-row.invariant.along
