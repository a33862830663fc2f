use Rattle.std.proofs.Common.{refl}
use Rattle.pdn_sql.specs.Tokens.{number_piece}
use Rattle.pdn_sql.proofs.TokenLaws.{tail_is}
use Rattle.pdn_sql.proofs.lexer.number_piece.Goals as goal

pub returns : goal.returns
unfolding number_piece
returns c = rw (c.number_token.ensures, c.run-more.ensures.is, tail_is 1 c.args.bytes.now) refl
