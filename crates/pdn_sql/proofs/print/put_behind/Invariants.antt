use Rattle.std.proofs.Common.{◌≡◌, ◌++◌, drop}
use Rattle.pdn_sql.specs.Printing.{text_behind}
use Rattle.pdn_sql.proofs.print.put_behind.Given as goal

abbrev pub invariant-loop-next : goal.invariant-loop-next
invariant-loop-next l = l.out.items ++ text_behind l.last (drop l.next-index l.rest) ≡ l.fn.out.items ++ text_behind l.fn.first l.rest
