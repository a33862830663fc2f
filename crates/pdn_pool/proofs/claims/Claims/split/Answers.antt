use Rattle.std.proofs.Common.{arith}
use Rattle.pdn_pool.proofs.DrawSteps.{splits}
use Rattle.pdn_pool.proofs.claims.Claims.split.Goals as goal

pub split_seat-new-requires : goal.split_seat-new-requires
split_seat-new-requires c =
    let one = c.args.self.now.one in
    (c.requires.fresh.0, omega arith, splits c.args.seat.now.seat.id c.args.seat.now.seat.me.0 c.requires.heavy c.requires.fresh.1)
