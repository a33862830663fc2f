use Rattle.std.proofs.Common.{◌<◌, ◌≡◌, true, length, sym, ap, ◌∙◌, subst}
use Rattle.std.specs.Prelude.{IsSome}
use Rattle.pdn_site.specs.Models.{UnitModel}
use Rattle.pdn_broker.specs.Prepared.{PreparedModel, IsPrepared}
use Rattle.pdn_broker.specs.Units.{is_dealt, net_or}
use Rattle.pdn_broker.specs.Running.{unit_at}
use Rattle.pdn_broker.proofs.UnitPlaces.{dealt_is_some}
use Rattle.pdn_broker.proofs.prepared.Prepared.circuit.Goals as goal

pub unit_at-requires : goal.unit_at-requires
unit_at-requires c = subst (λ (p : PreparedModel). c.args.unit < length p.units) (sym c.self.view_is) c.requires.in_range

pub circuit_of-requires : goal.circuit_of-requires
circuit_of-requires c =
    subst (λ (u : UnitModel). IsSome u.circuit) (sym c.unit_at.ensures)
    (dealt_is_some _ c.self.invariant c.args.unit (subst (λ (p : PreparedModel). c.args.unit < length p.units) (sym c.self.view_is) c.requires.in_range)
    (subst (λ (p : PreparedModel). is_dealt (unit_at p c.args.unit).kind ≡ true) (sym c.self.view_is) c.requires.dealt))

pub returns-clause-net : goal.returns-clause-net
returns-clause-net c = c.circuit_of.ensures ∙ ap (λ (u : UnitModel). net_or u.circuit) (c.unit_at.ensures ∙ ap (λ (p : PreparedModel). unit_at p c.args.unit) c.self.view_is)

pub returns-clause-kept : goal.returns-clause-kept
returns-clause-kept c = subst IsPrepared c.self.view_is c.self.invariant
