use Rattle.std.proofs.lemmas.List.{take_rest}
use Rattle.pdn_link.proofs.Receiving.{receives}
use Rattle.pdn_link.proofs.mem_link.MemLinkLink.recv.Goals as goal

pub returns-clause-bytes : goal.returns-clause-bytes
returns-clause-bytes c =
    let held = c.deref.ensures.value in
    let rest = take_rest c.self.inside.input.items c.self.inside.at in
    rw (← c.self.view_is) (receives c.self.inside.input.items c.args.room.now c.fill-count.new.room c.self.inside.at c.fill-count.result
    c.self.invariant.0 (rw (held, rest) at c.fill-count.ensures.count) (rw (held, rest) at c.fill-count.ensures.filled))
