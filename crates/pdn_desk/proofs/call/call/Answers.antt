use Rattle.std.proofs.Common.{sym}
use borrow.Author.Tests.{lt-leb}
use Rattle.pdn_desk.specs.Ways.{end_of}
use Rattle.pdn_desk.proofs.Coming.{not_spent}
use Rattle.pdn_desk.proofs.call.call.Goals as goal

pub returns-else-count-calls_of : goal.returns-else-count-calls_of
returns-else-count-calls_of g c = not_spent (g.W.Outside.state c.args.world.now) (g.W.Outside.state c.calls_of.new.self) c.args.schema.now c.args.asked.call c.args.asked.text.now c.in-Ok.count
    (rw (sym c.calls_of-in-Ok.ensures) (lt-leb c.calls_of-in-Ok.result c.in-Ok.count c.if-count-calls_of.false)) c.in-Ok.ensures.counted (g.W.Outside.state c.answer.new.world) (end_of c.answer.result) c.answer.ensures
