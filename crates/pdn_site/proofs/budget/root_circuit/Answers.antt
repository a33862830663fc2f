use Rattle.pdn_site.proofs.BudgetLaws.{net_exit, list_over, net_made}
use Rattle.std.proofs.Common.{true, sym, subst, length}
use Rattle.pdn_circuit.specs.Building.{Makes}
use Rattle.pdn_site.specs.Built.{Rooting, taken_by}
use Rattle.pdn_site.specs.Circuits.{net_of, root_list}
use Rattle.pdn_site.proofs.budget.root_circuit.Goals as goal

pub returns-in_err-rooting : goal.returns-in_err-rooting
returns-in_err-rooting c =
    let laying = root_list c.args.schema.now c.args.parts.now c.args.root.now in
    net_exit c.args.left.now (net_of true laying) _ _ c.from_residual-in_err-rooting.ensures.1
    (list_over c.args.left.now true laying c.in_ok-b.b c.in_ok-b.ensures _ _ c.in_err-rooting.ensures.made)

pub returns : goal.returns
returns c =
    let laying = root_list c.args.schema.now c.args.parts.now c.args.root.now in
    let made : Makes c.in_ok-b.b c.root_list.new.b (laying (taken_by c.in_ok-b.b.gates 0) (length c.in_ok-b.b.gates)) (c.rooting.inside.list, taken_by c.root_list.new.b.gates c.rooting.inside.segment)
    = subst (λ (r : Rooting). Makes c.in_ok-b.b c.root_list.new.b (laying (taken_by c.in_ok-b.b.gates 0) (length c.in_ok-b.b.gates)) (r.list, taken_by c.root_list.new.b.gates r.segments)) (sym c.rooting.view_is) c.in_ok-rooting.ensures.made in
    net_made c.args.left.now true laying c.in_ok-b.b c.in_ok-b.ensures _ c.rooting.inside.list _ made c.finished.result c.finished.ensures
