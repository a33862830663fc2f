use Rattle.std.proofs.Common.{◌≡◌, ◌++◌, ◌≤◌, drop, length}
use Rattle.pdn_sql.specs.Tokens.{tokens_from}
use Rattle.pdn_sql.specs.Marks.{marked, marked_tokens}
use Rattle.pdn_sql.proofs.lexer.tokens.Given as goal

abbrev pub invariant-loop-i : goal.invariant-loop-i
invariant-loop-i l = record {
  so_far : l.out.items ++ marked (length l.bytes) l.seen (tokens_from l.left l.i (drop l.i l.bytes)) ≡ marked_tokens l.most l.bytes;
  deep : l.seen.depth ≤ l.i;
}
