use Rattle.pdn_reply.proofs.message.head.Goals as goal

pub returns : goal.returns
returns c = rw (← c.phrase-phrase.ensures, ← c.allow_line-allow.ensures) c.in_ok-head.ensures.ok
