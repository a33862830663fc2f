use Rattle.std.proofs.Common.{◌≡◌, ◌++◌, take}
use Rattle.pdn_sql.specs.Printing.{each, join_tokens}
use Rattle.pdn_sql.proofs.printed.put_joins.Given as goal

abbrev pub invariant-loop-x : goal.invariant-loop-x
invariant-loop-x l = l.out.items ≡ l.fn.out.items ++ each join_tokens (take l.x-index l.rest)
