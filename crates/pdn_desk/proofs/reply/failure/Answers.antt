use Rattle.pdn_desk.proofs.reply.failure.Goals as goal

pub returns : goal.returns
returns c = rw (c.deref.ensures.value, c.in_ok-body.ensures) at c.made.ensures
