use Rattle.std.proofs.Common.{◌≡◌, ◌<◌, ◌^◌, drop}
use Rattle.pdn_sql.specs.Tokens.{value_from}
use Rattle.pdn_sql.proofs.lexer.number_token.Given as goal

abbrev pub invariant-loop-b : goal.invariant-loop-b
invariant-loop-b l = record {
  small : l.n < 2 ^ 32;
  rest : value_from l.n (drop l.b-index l.digits) ≡ value_from 0 l.digits;
}
