use Rattle.std.proofs.Common.{sym, arith, ◌∙◌}
use Rattle.pdn_schema.proofs.ValidLaws.{none_stand, count_yes, count_no}
use Rattle.pdn_schema.proofs.valid.count_of.Goals as goal
use Rattle.pdn_schema.proofs.valid.count_of.Goals.{then-number, else-number}

pub loop-row-init : goal.loop-row-init
loop-row-init c = record { within = omega arith; is = sym (none_stand c.args.column c.args.number) }

pub loop-row-preserved : goal.loop-row-preserved
loop-row-preserved c =
    elim c.if-number.branch [
      | then-number w ↦ record {
        within = omega (arith, w.count-is);
        is = w.count-is ∙ count_yes c.args.rows.now c.loop-row.row-index c.args.column c.args.number c.loop-row.count c.number.result c.row-item.result c.cell.result c.loop-row-test.true c.row-item.is c.cell.ensures c.number.ensures w.if-number.true c.loop-row.invariant.is;
      }
      | else-number w ↦ record {
        within = omega (arith, w.count-is);
        is = w.count-is ∙ count_no c.args.rows.now c.loop-row.row-index c.args.column c.args.number c.loop-row.count c.number.result c.row-item.result c.cell.result c.loop-row-test.true c.row-item.is c.cell.ensures c.number.ensures w.if-number.false c.loop-row.invariant.is;
      }
    ]
