use Rattle.std.proofs.Common.{◌/◌, arith, refl, ℕ}
use Rattle.std.specs.Prelude.{slice_index}
use Rattle.pdn_circuit.specs.declared.lay.Pick.{Pick}
use Rattle.pdn_obl_rows.proofs.EncodingSteps.{plane_more}
use Rattle.pdn_obl_rows.proofs.OperatorLaws.{row_word}
use Rattle.pdn_obl_rows.proofs.appending.push_rows.Goals as goal

pub bounds-plane-row : goal.bounds-plane-row
bounds-plane-row c = omega (arith, row_word c.args.len c.loop-row.row c.loop-row-test.true, c.requires)

pub loop-row-preserved : goal.loop-row-preserved
loop-row-preserved c =
    plane_more {X = Pick} (λ row. record { list = c.args.list; row = row; gate = slice_index c.args.plane.now (row / 64) }) c.args.picks.now.items _ _ c.loop-row.row _ c.loop-row.invariant c.in_ok-push.ensures.items refl
