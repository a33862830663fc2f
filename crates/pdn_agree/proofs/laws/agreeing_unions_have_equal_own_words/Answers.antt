use Rattle.pdn_agree.proofs.Shapes.{own_words_are_equal}
use Rattle.pdn_agree.proofs.laws.agreeing_unions_have_equal_own_words.Goals as goal

pub returns : goal.returns
returns c = own_words_are_equal
