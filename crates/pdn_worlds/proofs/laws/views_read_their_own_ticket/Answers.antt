use Rattle.pdn_worlds.proofs.ViewLaws.{own_ticket_law}
use Rattle.pdn_worlds.proofs.laws.views_read_their_own_ticket.Goals as goal

pub returns : goal.returns
returns c = own_ticket_law
