use Rattle.std.proofs.Common.{refl, arith}
use Rattle.pdn_circuit.proofs.Building.{two_there}
use Rattle.pdn_circuit.proofs.Making.{exit_tries, extends_longer}
use Rattle.pdn_obl_rows.proofs.ThereLaws.{there_later}
use Rattle.pdn_obl_group.specs.Loops.{in_turn}
use Rattle.pdn_obl_group.specs.Operators.{any_row}
use Rattle.pdn_obl_group.proofs.Steps.{turn_begin, turn_stops, turn_next, turn_end}
use Rattle.pdn_obl_group.proofs.cutting.any_valid.Goals as goal

pub loop-row-init : goal.loop-row-init
loop-row-init c = record {
  along = turn_begin (any_row c.args.list.now) c.args.b.now c.args.list.now.len 0 0 refl;
  longer = omega arith;
  there = omega (arith, two_there _ c.len-gates.ensures.kept.begins);
}

pub any_row-requires-clause-there : goal.any_row-requires-clause-there
any_row-requires-clause-there c = there_later _ _ _ c.loop-row.invariant.longer c.requires.there

pub any_row-requires-clause-row : goal.any_row-requires-clause-row
any_row-requires-clause-row c = omega (arith, c.loop-row-test.true, c.rows-count.ensures.length)

pub returns-in_err-any-clause-made : goal.returns-in_err-any-clause-made
returns-in_err-any-clause-made c =
    let list = c.args.list.now in
    exit_tries _ _ (in_turn (any_row list) 0 list.len 0) _ _ c.from_residual.ensures.1
    (turn_stops (any_row list) _ _ _ _ c.loop-row.row list.len (omega (arith, c.loop-row-test.true, c.rows-count.ensures.length)) c.loop-row.invariant.along _ _ c.in_err-any.ensures.made)

pub loop-row-preserved : goal.loop-row-preserved
loop-row-preserved c =
    let list = c.args.list.now in
    let along = turn_next (any_row list) _ _ _ _ c.loop-row.row list.len (omega (arith, c.loop-row-test.true, c.rows-count.ensures.length)) c.loop-row.invariant.along _ _ c.in_ok-any.ensures.made in
    record { along = along; longer = extends_longer _ _ along.stands; there = c.in_ok-any.ensures.there }

pub returns-clause-made : goal.returns-clause-made
returns-clause-made c = turn_end (any_row c.args.list.now) _ _ _ _ c.loop-row.row c.args.list.now.len (omega (arith, c.loop-row-test.false, c.rows-count.ensures.length)) c.loop-row.invariant.along
