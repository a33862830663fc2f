use Rattle.pdn_sql.proofs.RoundTrip.{printed_again}
use Rattle.pdn_sql.proofs.print.print_query.Goals as goal

pub returns-clause-again : goal.returns-clause-again
returns-clause-again c = λ most limit bytes queries says member short some. printed_again most limit bytes queries c.args.query.now says member short some
