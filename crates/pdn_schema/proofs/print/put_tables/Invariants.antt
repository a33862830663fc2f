use Rattle.std.proofs.Common.{◌≡◌, ◌++◌, take}
use Rattle.pdn_schema.specs.Reading.{tables_forms}
use Rattle.pdn_schema.specs.Printing.{lines_text}
use Rattle.pdn_schema.proofs.print.put_tables.Given as goal

abbrev pub invariant-loop-t : goal.invariant-loop-t
invariant-loop-t l = l.out.items ≡ l.fn.out.items ++ lines_text (tables_forms (take l.t-index l.tables))
