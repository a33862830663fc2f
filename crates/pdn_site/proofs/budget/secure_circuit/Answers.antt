use Rattle.pdn_site.proofs.BudgetLaws.{net_exit, list_over, net_made}
use Rattle.std.proofs.Common.{false}
use Rattle.pdn_site.specs.Built.{laid_through}
use Rattle.pdn_site.specs.Circuits.{net_of}
use Rattle.pdn_site.proofs.budget.secure_circuit.Goals as goal

pub returns-in_err-list : goal.returns-in_err-list
returns-in_err-list c =
    let laying = (laid_through c.args.schema.now c.args.value.now c.args.top.now c.args.leaves.now).list in
    net_exit c.args.left.now (net_of false laying) _ _ c.from_residual-in_err-list.ensures.1
    (list_over c.args.left.now false laying c.in_ok-b.b c.in_ok-b.ensures _ _ (c.in_err-list.ensures.made 0))

pub returns : goal.returns
returns c =
    let laying = (laid_through c.args.schema.now c.args.value.now c.args.top.now c.args.leaves.now).list in
    net_made c.args.left.now false laying c.in_ok-b.b c.in_ok-b.ensures _ c.in_ok-list.list _ (c.in_ok-list.ensures.made 0) c.finished.result c.finished.ensures
