use Rattle.pdn_dealer.proofs.SectionWords.{covers_of, words_of_layout}
use Rattle.pdn_dealer.proofs.sections.sections_are_laid_out.Goals as goal

pub returns : goal.returns
returns c = λ net words l. record { covers = covers_of net words l; whole = words_of_layout net words l }
