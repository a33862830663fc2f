use Rattle.pdn_schema.proofs.Again.{text_says}
use Rattle.pdn_schema.proofs.print.print_schema.Goals as goal

pub returns-clause-says : goal.returns-clause-says
returns-clause-says c = text_says (record { floor = c.schema.inside.floor; callers = c.schema.inside.callers.items; tables = c.schema.inside.tables.items }) c.args.schema.now c.new-out.result.items c.put_schema.new.out.items c.new-out.ensures.items (rw (c.deref.ensures.value, c.deref-2.ensures.value) at c.in_ok-put_schema.ensures) c.schema.view_is c.schema.invariant
