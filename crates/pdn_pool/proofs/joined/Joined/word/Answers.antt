use Rattle.std.proofs.Common.{arith}
use Rattle.pdn_pool.proofs.DrawSteps.{learns}
use Rattle.pdn_pool.proofs.joined.Joined.word.Goals as goal

pub load-requires : goal.load-requires
load-requires c =
    let one = c.args.claims.now.one in
    (c.requires.own, omega arith, learns c.args.claims.now.table.shared.table_id.slots c.args.self.now.seat.id c.args.self.now.seat.me.0 c.args.self.now.seat.me.1 c.requires.whole)
