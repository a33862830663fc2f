use Rattle.std.proofs.Common.{refl}
use Rattle.pdn_desk.specs.Connections.{link_model}
use Rattle.pdn_desk.specs.Ways.{Replied}
use Rattle.pdn_desk.proofs.Serving.{served}
use Rattle.pdn_desk.proofs.serve.served.Goals as goal

pub returns-in-Ok-clause-serves : goal.returns-in-Ok-clause-serves
returns-in-Ok-clause-serves g c = served c.args.schema.now
    (link_model (g.L.Link.left c.args.link.now) (g.L.Link.sent c.args.link.now) (g.L.Link.faults c.args.link.now))
    (link_model (g.L.Link.left c.response.new.link) (g.L.Link.sent c.response.new.link) (g.L.Link.faults c.response.new.link))
    (link_model (g.L.Link.left c.send.new.link) (g.L.Link.sent c.send.new.link) (g.L.Link.faults c.send.new.link))
    (g.W.Outside.state c.args.world.now) (g.W.Outside.state c.response.new.world)
    (Replied c.in-Ok.reply) c.in-Ok.reply c.send.result c.in-Ok.ensures.brings.0 refl c.in-Ok.ensures.brings.1 c.in-Ok.ensures.later c.send.ensures.sends
