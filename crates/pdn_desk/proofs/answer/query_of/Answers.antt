use Rattle.pdn_desk.proofs.Queries.{one_query}
use Rattle.pdn_desk.proofs.answer.query_of.Goals as goal

pub only-requires : goal.only-requires
only-requires c = one_query c.args.text.now c.in-Ok.queries.items c.in-Ok.ensures.found (c.texts_keep_limits.ensures c.in-Ok.queries.items c.in-Ok.ensures.found).few
