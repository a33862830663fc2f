use Rattle.std.proofs.Common.{◌≡◌, ◌++◌, take}
use Rattle.pdn_schema.specs.Reading.{columns_forms}
use Rattle.pdn_schema.specs.Printing.{lines_text}
use Rattle.pdn_schema.proofs.print.put_columns.Given as goal

abbrev pub invariant-loop-c : goal.invariant-loop-c
invariant-loop-c l = l.out.items ≡ l.fn.out.items ++ lines_text (columns_forms (take l.c-index l.columns))
