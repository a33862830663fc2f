use Rattle.std.proofs.Common.{refl}
use Rattle.pdn_sql.specs.Tokens.{word_piece}
use Rattle.pdn_sql.proofs.TokenLaws.{tail_is}
use Rattle.pdn_sql.proofs.lexer.word_piece.Goals as goal

pub returns : goal.returns
unfolding word_piece
returns c = rw (c.word_token.ensures, c.in_ok-text.ensures.ok, c.run-more.ensures.is, tail_is 1 c.args.bytes.now) refl
