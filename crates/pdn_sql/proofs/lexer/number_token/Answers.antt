use Rattle.pdn_sql.proofs.TokenLaws.{too_large}
use Rattle.std.proofs.Common.{arith}
use Rattle.pdn_sql.proofs.lexer.number_token.Goals as goal

pub returns-then-n-gt4294967295 : goal.returns-then-n-gt4294967295
returns-then-n-gt4294967295 c = too_large c.args.digits.now c.loop-b.b-index c.loop-b.n c.saturating_sub.result c.loop-b-test.true c.loop-b.invariant.rest c.saturating_sub.ensures (omega arith)
