use Rattle.std.proofs.Common.{arith, nat_lt}
use Rattle.pdn_obl_rows.proofs.Walks.{known_tries}
use Rattle.pdn_obl_rank.specs.Tops.{limit_gates}
use Rattle.pdn_obl_rank.proofs.TopSteps.{limit_is}
use Rattle.pdn_obl_rank.proofs.limiting.limited.Goals as goal

pub returns-else-limit-len-clause-made : goal.returns-else-limit-len-clause-made
returns-else-limit-len-clause-made c =
    let list = c.args.list.now in
    known_tries c.args.b.now (limit_gates (nat_lt c.args.limit list.len) list c.args.order.now c.args.limit) list.valid _
    (limit_is list c.args.order.now c.args.limit (omega (arith, c.if-limit-len.false, c.len.ensures))) c.all.ensures.gives c.all.ensures.memory
