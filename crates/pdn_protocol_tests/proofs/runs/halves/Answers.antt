use Rattle.std.proofs.Common.{length, ap, sym, ◌∙◌}
use Rattle.pdn_base.specs.declared.site.Site.TheVariants.{A, B}
use Rattle.pdn_dealer.specs.Sections.{layout_of}
use Rattle.pdn_gmw.proofs.Meeting.{length-first_words, part_fits, halves_of_section}
use Rattle.pdn_protocol_tests.proofs.runs.halves.Goals as goal

pub split-requires : goal.split-requires
split-requires g c = ap length c.in_ok-section.ensures ∙ length-first_words _ _ ∙ c.section_len.ensures

pub new-requires-2 : goal.new-requires-2
new-requires-2 g c =
    part_fits c.args.circuit.now A c.in_ok-section.section c.in_ok-words.field-0.items c.new.result.items c.in_ok-part_a.part_a
    (ap length c.in_ok-section.ensures ∙ length-first_words _ _ ∙ c.section_len.ensures) c.in_ok-part_a.ensures.a
    (ap length c.in_ok-words.ensures ∙ c.requires.a) (ap length c.new.ensures.items ∙ sym c.requires.given)

pub new-requires-4 : goal.new-requires-4
new-requires-4 g c =
    part_fits c.args.circuit.now B c.in_ok-section.section c.in_ok-words-2.field-0.items c.new-3.result.items c.in_ok-part_a.part_b
    (ap length c.in_ok-section.ensures ∙ length-first_words _ _ ∙ c.section_len.ensures) c.in_ok-part_a.ensures.b
    (ap length c.in_ok-words-2.ensures ∙ c.requires.b) (ap length c.new-3.ensures.items ∙ sym c.requires.given)

pub returns : goal.returns
returns g c =
    halves_of_section c.args.circuit.now (layout_of c.args.circuit.now c.in_ok-section.section) _ _ _ _ _ _ c.in_ok-half_a.half_a c.in_ok-half_b.half_b
    c.in_ok-part_a.ensures.a c.in_ok-part_a.ensures.b (ap length c.new-3.ensures.items ∙ sym (ap length c.new.ensures.items)) c.in_ok-half_a.ensures c.in_ok-half_b.ensures
