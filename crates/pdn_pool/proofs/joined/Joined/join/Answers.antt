use Rattle.std.proofs.Common.{arith}
use Rattle.pdn_pool.proofs.DrawSteps.{joins}
use Rattle.pdn_pool.proofs.joined.Joined.join.Goals as goal

pub join_seat-requires : goal.join_seat-requires
join_seat-requires c =
    let one = c.args.claims.now.one in
    (c.requires.own, c.requires.other, c.args.other.empty, omega arith, joins c.args.self.now.seat.id c.args.self.now.seat.me.0 c.args.other.seat.id c.args.other.seat.me.0)
