use Rattle.std.proofs.Common.{ℕ, List, ◌-◌, length, ap, ap₂, ◌∙◌, arith}
use Rattle.std.proofs.lemmas.Result.{IfOk-weaker}
use Rattle.pdn_gmw.proofs.Meeting.{length-first_words}
use Rattle.pdn_twin.specs.declared.starts.Start.{Start}
use Rattle.pdn_twin.proofs.WorldLaws.{same_units}
use Rattle.pdn_twin.proofs.TwinLaws.{root_within, root_dealt, root_takes, root_twin_is, second_net, second_root}
use Rattle.pdn_twin.proofs.twinning.root_twin.Goals as goal

pub overflow_sub-unit : goal.overflow_sub-unit
overflow_sub-unit g c = omega (arith, c.units-unit.ensures.count, root_within c.args.worlds.now.first c.units-unit.ensures.kept)

pub circuit-net-requires-clause-in_range : goal.circuit-net-requires-clause-in_range
circuit-net-requires-clause-in_range g c = omega (arith, c.units-unit.ensures.count, root_within c.args.worlds.now.first c.units-unit.ensures.kept)

pub circuit-net-requires-clause-dealt : goal.circuit-net-requires-clause-dealt
circuit-net-requires-clause-dealt g c = root_dealt c.args.worlds.now.first c.units-unit.ensures.kept _ (ap (λ n. n - 1) c.units-unit.ensures.count)

pub twin_on-requires-clause-first : goal.twin_on-requires-clause-first
twin_on-requires-clause-first g c =
    root_takes c.args.worlds.now.first c.units-unit.ensures.kept (g.D.Deal.tape c.args.deal.now) c.args.ticket _ _ _ _ (ap (λ n. n - 1) c.units-unit.ensures.count) c.circuit-net.ensures.net c.in_ok-first.ensures
    (c.as_slice.ensures.value ∙ c.requires.runs.first)

pub twin_on-requires-clause-second : goal.twin_on-requires-clause-second
twin_on-requires-clause-second g c =
    root_takes c.args.worlds.now.second c.requires.alike.second _ c.args.ticket _ _ _ _
    (ap (λ n. n - 1) c.units-unit.ensures.count ∙ second_root c.args.worlds.now.site c.args.worlds.now.first c.args.worlds.now.second (same_units c.args.worlds.now.site c.args.worlds.now.first c.args.worlds.now.second c.requires.alike))
    (c.circuit-net.ensures.net ∙ second_net c.args.worlds.now.site c.args.worlds.now.first c.args.worlds.now.second (same_units c.args.worlds.now.site c.args.worlds.now.first c.args.worlds.now.second c.requires.alike) _) c.in_ok-second.ensures
    (c.as_slice-2.ensures.value ∙ c.requires.runs.second)

pub twin_on-requires-clause-section : goal.twin_on-requires-clause-section
twin_on-requires-clause-section g c = ap (λ (ws : List ℕ). length ws) c.in_ok-section.ensures ∙ length-first_words _ _ ∙ c.section_len.ensures

pub returns : goal.returns
returns g c =
    IfOk-weaker c.twin_on.result _ _
    (λ twin is. root_twin_is c.args.worlds.now.site c.args.worlds.now.first c.args.worlds.now.second (same_units c.args.worlds.now.site c.args.worlds.now.first c.args.worlds.now.second c.requires.alike) (g.D.Deal.tape c.args.deal.now) c.args.ticket c.units-unit.ensures.kept (c.units-unit.result - 1) c.circuit-net.result.now _
    c.in_ok-section.section c.section_len.result c.as_slice.result.now c.as_slice-2.result.now twin (ap (λ n. n - 1) c.units-unit.ensures.count) c.circuit-net.ensures.net
    (ap₂ (λ (a b : Start). record { first = a; second = b }) c.in_ok-first.ensures c.in_ok-second.ensures)
    (c.as_slice.ensures.value ∙ c.requires.runs.first) (c.as_slice-2.ensures.value ∙ c.requires.runs.second) c.in_ok-section.ensures c.section_len.ensures is)
    c.twin_on.ensures
