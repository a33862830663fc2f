use Rattle.pdn_schema.proofs.PrintLaws.{text_parts}
use Rattle.pdn_schema.proofs.print.put_schema.Goals as goal

pub returns : goal.returns
returns c = text_parts c.put_end.result (record { floor = c.args.floor; callers = c.args.callers.now; tables = c.args.tables.now }) c.args.out.now.items _ _ _ _ _ c.in_ok-put_version.ensures c.in_ok-put_floor.ensures c.in_ok-put_callers.ensures c.in_ok-put_tables.ensures c.put_end.ensures
