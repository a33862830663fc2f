use Rattle.std.proofs.Common.{None, Some}
use Rattle.pdn_desk.specs.Requests.{posting}
use Rattle.pdn_desk.specs.Ways.{end_of}
use Rattle.pdn_desk.proofs.Coming.{found}
use Rattle.pdn_desk.proofs.call.post.Goals as goal

pub returns-in-Ok-Some : goal.returns-in-Ok-Some
returns-in-Ok-Some g c = found c.args.asked.call (posting c.args.schema.now c.args.asked.call c.args.asked.text.now) (Some c.in-Ok-Some.kept) (rw (c.in-Ok-Some.field-0-is) at c.in-Ok-Some.ensures.found)
    (g.W.Outside.state c.kept.new.self) (end_of c.repeat.result) (c.repeat.ensures (g.W.Outside.state c.kept.new.self))

pub returns-in-Ok-None : goal.returns-in-Ok-None
returns-in-Ok-None g c = found c.args.asked.call (posting c.args.schema.now c.args.asked.call c.args.asked.text.now) None (rw (c.in-Ok-None.field-0-is) at c.in-Ok-None.ensures.found)
    (g.W.Outside.state c.call.new.world) (end_of c.call.result) c.call.ensures
