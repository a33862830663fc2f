use Rattle.std.proofs.Common.{sym, ◌∙◌, arith, ◌∷◌, []}
use Rattle.std.proofs.lemmas.List.{length-append}
use Rattle.csv.specs.Records.{fields_of}
use Rattle.std.proofs.Common.{map}
use Rattle.pdn_keeper.proofs.ImportLaws.{rows_next, rows_refused, rows_done, rows_fit}
use Rattle.pdn_keeper.proofs.import.rows_below.Goals as goal

pub returns-in-Err-clause-rows : goal.returns-in-Err-clause-rows
returns-in-Err-clause-rows c =
    rw c.number.ensures (rows_refused c.args.columns.now c.args.records.now c.loop-i.i c.index-records-i.result c.loop-i.rows.items c.in-Err.cause c.loop-i-test.true c.index-records-i.is (sym c.in_ok-row.ensures ∙ c.in-Err.is) c.loop-i.invariant.rows)

pub loop-i-preserved : goal.loop-i-preserved
loop-i-preserved c =
    rw c.in_ok-push-in-Ok.ensures.items (record {
      count = omega (arith, c.loop-i.invariant.count, length-append c.loop-i.rows.items (c.in-Ok.row ∷ []));
      rows = rows_next c.args.columns.now c.args.records.now c.loop-i.i c.index-records-i.result c.loop-i.rows.items c.in-Ok.row c.loop-i-test.true c.index-records-i.is (sym c.in_ok-row.ensures ∙ c.in-Ok.is) c.loop-i.invariant.rows;
    })

pub returns-clause-kinds : goal.returns-clause-kinds
returns-clause-kinds c = rows_fit c.args.columns.now 1 (map fields_of c.args.records.now) c.loop-i.rows.items (rows_done c.args.columns.now c.args.records.now c.loop-i.i c.loop-i.rows.items c.loop-i-test.false c.loop-i.invariant.rows)
