use Rattle.std.proofs.Common.{ap, sym, ◌∙◌, length}
use Rattle.pdn_base.specs.declared.site.Site.TheVariants.{A, B}
use Rattle.pdn_dealer.specs.Sections.{layout_of}
use Rattle.pdn_gmw.proofs.Meeting.{part_fits, halves_of_section, fits_on, begun_on, length-first_words}
use Rattle.pdn_bench.proofs.phases.measure.Goals as goal

pub split-requires : goal.split-requires
split-requires g c = ap length c.in_ok-section.ensures ∙ length-first_words _ _ ∙ c.section_len.ensures

pub on-requires : goal.on-requires
on-requires g c =
    fits_on c.args.circuit.now c.in_ok-schedule.schedule _ c.in_ok-schedule.ensures
    (part_fits c.args.circuit.now A c.in_ok-section.section _ _ _ (ap length c.in_ok-section.ensures ∙ length-first_words _ _ ∙ c.section_len.ensures) c.in_ok-part_a.ensures.a
    (c.in_ok-own_a.ensures ∙ c.input_count.ensures) (c.in_ok-given_a.ensures ∙ c.given_count.ensures))

pub on-requires-2 : goal.on-requires-2
on-requires-2 g c =
    fits_on c.args.circuit.now c.in_ok-schedule.schedule _ c.in_ok-schedule.ensures
    (part_fits c.args.circuit.now B c.in_ok-section.section _ _ _ (ap length c.in_ok-section.ensures ∙ length-first_words _ _ ∙ c.section_len.ensures) c.in_ok-part_a.ensures.b
    (c.in_ok-own_b.ensures ∙ c.input_count-2.ensures) (c.in_ok-given_b.ensures ∙ c.given_count-2.ensures))

pub run_pair-requires : goal.run_pair-requires
run_pair-requires g c =
    halves_of_section c.args.circuit.now (layout_of c.args.circuit.now c.in_ok-section.section) _ _ _ _ _ _ _ _ c.in_ok-part_a.ensures.a c.in_ok-part_a.ensures.b
    (c.in_ok-given_b.ensures ∙ c.given_count-2.ensures ∙ sym (c.in_ok-given_a.ensures ∙ c.given_count.ensures)) (begun_on _ c.args.circuit.now c.in_ok-schedule.schedule _ c.in_ok-schedule.ensures c.in_ok-a.ensures) (begun_on _ c.args.circuit.now c.in_ok-schedule.schedule _ c.in_ok-schedule.ensures c.in_ok-b.ensures)
