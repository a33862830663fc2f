use Rattle.std.proofs.Common.{sym, ap, ap₂, ◌∙◌}
use Rattle.std.proofs.lemmas.Result.{IfOk-weaker}
use Rattle.pdn_circuit.specs.Gates.{Net}
use Rattle.pdn_dealer.specs.Sections.{section_length}
use Rattle.pdn_broker.proofs.UnitPlaces.{secure_is_dealt}
use Rattle.pdn_twin.specs.declared.starts.Start.{Start}
use Rattle.pdn_twin.specs.declared.starts.Starts.{Starts}
use Rattle.pdn_twin.specs.UnitTwins.{twin_on}
use Rattle.pdn_twin.proofs.TwinLaws.{taken_as, second_net, second_secure, second_within}
use Rattle.pdn_twin.proofs.twin_job.secure_twin.Goals as goal

pub secure_start-requires-2-clause-in_range : goal.secure_start-requires-2-clause-in_range
secure_start-requires-2-clause-in_range c = second_within c.args.worlds.now.site c.args.worlds.now.first c.args.worlds.now.second c.requires.same c.args.unit c.requires.in_range

pub secure_start-requires-2-clause-secure : goal.secure_start-requires-2-clause-secure
secure_start-requires-2-clause-secure c = second_secure c.args.worlds.now.site c.args.worlds.now.first c.args.worlds.now.second c.requires.same c.args.unit c.requires.secure

pub circuit-net-requires-clause-dealt : goal.circuit-net-requires-clause-dealt
circuit-net-requires-clause-dealt c = secure_is_dealt _ c.requires.secure

pub twin_on-requires-clause-first : goal.twin_on-requires-clause-first
twin_on-requires-clause-first c = taken_as _ _ _ c.circuit-net.ensures.net c.in_ok-first.ensures.takes

pub twin_on-requires-clause-second : goal.twin_on-requires-clause-second
twin_on-requires-clause-second c =
    taken_as _ _ _ (c.circuit-net.ensures.net ∙ second_net c.args.worlds.now.site c.args.worlds.now.first c.args.worlds.now.second c.requires.same c.args.unit) c.in_ok-second.ensures.takes

pub twin_on-requires-clause-section : goal.twin_on-requires-clause-section
twin_on-requires-clause-section c = c.requires.section ∙ ap (λ (net : Net). section_length net) (sym c.circuit-net.ensures.net)

pub returns : goal.returns
returns c =
    IfOk-weaker c.twin_on.result _ _
    (λ twin is. is ∙ ap₂ (λ (net : Net) (starts : Starts). twin_on c.args.worlds.now.site net c.args.unit starts c.args.section) c.circuit-net.ensures.net
    (ap₂ (λ (a b : Start). record { first = a; second = b }) c.in_ok-first.ensures.is c.in_ok-second.ensures.is))
    c.twin_on.ensures
