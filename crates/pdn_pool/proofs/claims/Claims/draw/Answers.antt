use Rattle.std.proofs.Common.{arith}
use Rattle.pdn_pool.proofs.DrawSteps.{draws}
use Rattle.pdn_pool.proofs.claims.Claims.draw.Goals as goal

pub fetch_add-found-requires : goal.fetch_add-found-requires
fetch_add-found-requires c =
    let heavy = c.args.seat.now.heavy in
    let room = c.requires.room in
    let one = c.args.self.now.one in
    let more = draws c.args.self.now.table.shared.table_id.slots c.args.seat.now.seat.id c.args.seat.now.seat.me.0 c.args.seat.now.seat.me.1 (omega arith) in
    (c.requires.own, omega arith, more)
