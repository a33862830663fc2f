use Rattle.std.proofs.Common.{arith}
use Rattle.pdn_agree.proofs.SpotLaws.{spot_here, table_on, tables_end}
use Rattle.pdn_agree.proofs.spot.disagree.Goals as goal

pub loop-table-preserved : goal.loop-table-preserved
loop-table-preserved c = table_on c.args.schema.now c.args.first.now c.args.second.now c.loop-table.table c.columns_of-columns.result.now c.rows_of-left.result.now c.rows_of-right.result.now c.columns_of-columns.ensures.are c.rows_of-left.ensures c.rows_of-right.ensures c.loop-table.invariant c.in_default.ensures

pub returns-in-Some : goal.returns-in-Some
returns-in-Some c = spot_here c.args.schema.now c.args.first.now c.args.second.now c.loop-table.table c.in-Some.column c.columns_of-columns.result.now c.rows_of-left.result.now c.rows_of-right.result.now c.columns_of-columns.ensures.are c.rows_of-left.ensures c.rows_of-right.ensures c.loop-table.invariant c.in-Some.ensures

pub returns : goal.returns
returns c = tables_end c.args.schema.now c.args.first.now c.args.second.now c.loop-table.table (omega (arith, c.table_count-table-end.ensures, c.loop-table-test.false)) c.loop-table.invariant
