use Rattle.pdn_shift.proofs.Undoing.{back_law, back_words_law}
use Rattle.pdn_shift.proofs.laws.change_is_undone.Goals as goal

pub returns : goal.returns
returns c = record { sections = back_law; words = back_words_law }
