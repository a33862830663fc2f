use Rattle.std.proofs.Common.{◌≡◌, ◌+◌, ◌-◌, ◌≤◌, length, drop}
use Rattle.pdn_sql.specs.Tokens.{run, test_of}
use Rattle.pdn_sql.proofs.lexer.run.Given as goal

abbrev pub invariant-loop-n : goal.invariant-loop-n
invariant-loop-n l = record {
  within : l.n ≤ length l.bytes;
  rest : run (test_of l.class) (drop l.n l.bytes) + l.n ≡ run (test_of l.class) l.bytes;
}

abbrev pub decreases-loop-n : goal.decreases-loop-n
decreases-loop-n l = length l.bytes - l.n
