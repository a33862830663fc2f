use Rattle.std.proofs.Common.{ap}
use Rattle.pdn_obl_rows.proofs.Walks.{known_tries}
use Rattle.pdn_obl_rank.specs.Tops.{kept_gates}
use Rattle.pdn_obl_rank.proofs.limiting.kept.Goals as goal

pub returns-in-None-clause-made : goal.returns-in-None-clause-made
returns-in-None-clause-made c =
    let list = c.args.list.now in
    known_tries c.args.b.now (kept_gates list c.args.order.now c.args.limit) list.valid _ (ap (kept_gates list c.args.order.now) c.in-None.is) c.all.ensures.gives c.all.ensures.memory
