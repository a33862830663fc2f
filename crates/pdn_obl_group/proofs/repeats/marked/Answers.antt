use Rattle.std.proofs.Common.{◌∙◌, ℕ, List, length, replicate, ap, arith, subst}
use Rattle.std.proofs.lemmas.List.{length-replicate}
use Rattle.pdn_circuit.specs.Building.{Makes, Stops}
use Rattle.pdn_circuit.proofs.Building.{two_there}
use Rattle.pdn_circuit.proofs.Making.{extends_longer}
use Rattle.pdn_obl_rows.proofs.ThereLaws.{there_later}
use Rattle.pdn_obl_group.specs.Loops.{in_turn}
use Rattle.pdn_obl_group.specs.Operators.{distinct_row}
use Rattle.pdn_obl_group.proofs.Steps.{exit_vec, turn_begin, turn_stops, turn_next, turn_end, zeros_there}
use Rattle.pdn_obl_group.proofs.repeats.marked.Goals as goal

pub loop-row-init : goal.loop-row-init
loop-row-init c =
    let list = c.args.list.now in
    let zero = c.in_ok-dups.ensures.zero ∙ ap (λ n. replicate n 0) (ap length c.valid.ensures.valid) in
    record {
      along = turn_begin (distinct_row list) c.args.b.now list.len _ (replicate (length list.valid) 0) zero;
      longer = omega arith;
      there = zeros_there c.args.b.now (length list.valid) _ (two_there _ c.len-gates.ensures.kept.begins) zero;
      count = ap length zero ∙ length-replicate {A = ℕ} (length list.valid) 0;
    }

pub distinct_row-requires-clause-there : goal.distinct_row-requires-clause-there
distinct_row-requires-clause-there c = there_later _ _ _ c.loop-row.invariant.longer c.requires.there

pub distinct_row-requires-clause-row : goal.distinct_row-requires-clause-row
distinct_row-requires-clause-row c = omega (arith, c.loop-row-test.true, c.rows-count.ensures.length)

pub returns-in_err-dups-2-clause-made : goal.returns-in_err-dups-2-clause-made
returns-in_err-dups-2-clause-made c =
    let list = c.args.list.now in
    let stopped = subst (λ (xs : List ℕ). Stops c.loop-row.b c.distinct_row.new.b (distinct_row list c.loop-row.row xs (length c.loop-row.b.gates)) c.in_err-dups-2.field-0.0) c.deref.ensures.value c.in_err-dups-2.ensures.made in
    exit_vec _ _ (in_turn (distinct_row list) 0 list.len (replicate (length list.valid) 0)) _ _ c.from_residual-in_err-dups-2.ensures.1
    (turn_stops (distinct_row list) _ _ _ _ c.loop-row.row list.len (omega (arith, c.loop-row-test.true, c.rows-count.ensures.length)) c.loop-row.invariant.along _ _ stopped)

pub loop-row-preserved : goal.loop-row-preserved
loop-row-preserved c =
    let list = c.args.list.now in
    let made = subst (λ (xs : List ℕ). Makes c.loop-row.b c.distinct_row.new.b (distinct_row list c.loop-row.row xs (length c.loop-row.b.gates)) c.in_ok-dups-2.dups.items) c.deref.ensures.value c.in_ok-dups-2.ensures.made in
    let along = turn_next (distinct_row list) _ _ _ _ c.loop-row.row list.len (omega (arith, c.loop-row-test.true, c.rows-count.ensures.length)) c.loop-row.invariant.along _ _ made in
    record { along = along; longer = extends_longer _ _ along.stands; there = c.in_ok-dups-2.ensures.there; count = c.in_ok-dups-2.ensures.count ∙ ap length c.deref.ensures.value ∙ c.loop-row.invariant.count }

pub returns-clause-made : goal.returns-clause-made
returns-clause-made c = turn_end (distinct_row c.args.list.now) _ _ _ _ c.loop-row.row c.args.list.now.len (omega (arith, c.loop-row-test.false, c.rows-count.ensures.length)) c.loop-row.invariant.along
