use Rattle.matchit.proofs.OnLiterals.{matchit_on_literals}
use Rattle.pdn_http.proofs.route.call_router.Goals as goal

pub returns : goal.returns
unfolding matchit_on_literals
returns c =
    let a = c.in_ok-insert.ensures in
    let b = rw c.new-router.ensures at a in (_, b.1)
