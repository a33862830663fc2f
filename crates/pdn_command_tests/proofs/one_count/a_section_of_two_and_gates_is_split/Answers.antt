use Rattle.std.proofs.Common.{length, ap, ◌∙◌}
use Rattle.pdn_gmw.proofs.Meeting.{length-first_words}
use Rattle.pdn_command_tests.proofs.one_count.a_section_of_two_and_gates_is_split.Goals as goal

pub split-requires : goal.split-requires
split-requires g c = ap length c.in_ok-section.ensures ∙ length-first_words _ _ ∙ c.section_len.ensures
