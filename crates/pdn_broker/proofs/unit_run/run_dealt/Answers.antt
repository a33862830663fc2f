use Rattle.std.proofs.lemmas.Result.{IfOk-weaker}
use Rattle.pdn_base.specs.declared.site.Site.TheVariants.{A, B}
use Rattle.pdn_dealer.specs.Sections.{layout_of}
use Rattle.pdn_gmw.proofs.Meeting.{part_fits, halves_of_section, fits_on, begun_on}
use Rattle.pdn_broker.proofs.RunLaws.{run_on_parts, given_same, own_fits_a, own_fits_b, given_fits_a, given_fits_b}
use Rattle.pdn_broker.proofs.unit_run.run_dealt.Goals as goal

pub on-requires : goal.on-requires
on-requires c =
    fits_on c.args.circuit.now c.in_ok-schedule.schedule _ c.in_ok-schedule.ensures
    (part_fits c.args.circuit.now A c.args.section _ _ _ c.requires.section c.in_ok-part_a.ensures.a
    (own_fits_a c.args.circuit.now c.args.own c.args.given _ _ c.own.view_is c.requires.takes) (given_fits_a c.args.circuit.now c.args.own c.args.given _ _ c.given.view_is c.requires.takes))

pub on-requires-2 : goal.on-requires-2
on-requires-2 c =
    fits_on c.args.circuit.now c.in_ok-schedule.schedule _ c.in_ok-schedule.ensures
    (part_fits c.args.circuit.now B c.args.section _ _ _ c.requires.section c.in_ok-part_a.ensures.b
    (own_fits_b c.args.circuit.now c.args.own c.args.given _ _ c.own.view_is c.requires.takes) (given_fits_b c.args.circuit.now c.args.own c.args.given _ _ c.given.view_is c.requires.takes))

pub run_pair-requires : goal.run_pair-requires
run_pair-requires c =
    halves_of_section c.args.circuit.now (layout_of c.args.circuit.now c.args.section) _ _ _ _ _ _ _ _ c.in_ok-part_a.ensures.a c.in_ok-part_a.ensures.b
    (given_same c.args.circuit.now c.args.own c.args.given _ _ c.given.view_is c.requires.takes) (begun_on _ c.args.circuit.now c.in_ok-schedule.schedule _ c.in_ok-schedule.ensures c.in_ok-a.ensures) (begun_on _ c.args.circuit.now c.in_ok-schedule.schedule _ c.in_ok-schedule.ensures c.in_ok-b.ensures)

pub returns : goal.returns
returns c =
    IfOk-weaker c.run_pair.result _ _
    (λ run is. run_on_parts c.args.circuit.now c.args.section c.args.own c.args.given _ _ _ _ _ _ _ _ run
    c.own.view_is c.given.view_is c.in_ok-part_a.ensures.a c.in_ok-part_a.ensures.b (begun_on _ c.args.circuit.now c.in_ok-schedule.schedule _ c.in_ok-schedule.ensures c.in_ok-a.ensures) (begun_on _ c.args.circuit.now c.in_ok-schedule.schedule _ c.in_ok-schedule.ensures c.in_ok-b.ensures) is)
    c.run_pair.ensures.shares
