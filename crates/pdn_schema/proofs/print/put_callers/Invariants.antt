use Rattle.std.proofs.Common.{◌≡◌, ◌++◌, take}
use Rattle.pdn_schema.specs.Reading.{callers_forms}
use Rattle.pdn_schema.specs.Printing.{lines_text}
use Rattle.pdn_schema.proofs.print.put_callers.Given as goal

abbrev pub invariant-loop-c : goal.invariant-loop-c
invariant-loop-c l = l.out.items ≡ l.fn.out.items ++ lines_text (callers_forms (take l.c-index l.callers))
