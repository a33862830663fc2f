use Rattle.std.proofs.Common.{[], ℕ, List, ap, ◌∙◌}
use Rattle.pdn_circuit.specs.Gates.{Net}
use Rattle.pdn_gmw.specs.Known.{HeldWords, held}
use Rattle.pdn_gmw.specs.Steps.{HalfState}
use Rattle.pdn_gmw.specs.Steps.{finished, shares_out}
use Rattle.pdn_gmw.proofs.Putting.{all_known}
use Rattle.pdn_gmw.proofs.Stepping.{finish_is}
use Rattle.pdn_gmw.proofs.half.Half.finish.Goals as goal

pub returns : goal.returns
returns c =
    let inv = c.self.invariant in
    let net : Net = c.self.inside.schedule in
    let outs : List ℕ = c.write_outputs.new.outputs.items in
    let known = all_known c.self.inside inv (ap (λ (s : HalfState). s.stage) c.self.view_is ∙ c.requires) in
    c.of.ensures
    ∙ ap (λ (n : Net). record { net = n; site = c.holdings.inside.site; own = c.holdings.inside.own.items; given = c.holdings.inside.given.items; view = record { own = c.self.inside.own_r.items; other = c.self.inside.other_r.items; gates = c.self.inside.views.items; masks = c.holdings.inside.masks.items }; outputs = outs }) c.into_circuit.ensures
    ∙ ap (λ (w : HeldWords). record { net = net; site = w.site; own = w.own; given = w.given; view = record { own = c.self.inside.own_r.items; other = c.self.inside.other_r.items; gates = c.self.inside.views.items; masks = w.masks }; outputs = outs }) c.holdings.view_is
    ∙ finish_is net c.self.inside.holdings c.self.inside.views.items c.self.inside.own_r.items c.self.inside.other_r.items outs c.as_slice.result.now inv.own_r inv.other_r (c.write_outputs.ensures ∙ ap (λ (n : Net). shares_out n (held c.self.inside.holdings []) c.as_slice.result.now) c.circuit.ensures) (c.as_slice.ensures.value ∙ known)
    ∙ ap finished c.self.view_is
