use Rattle.pdn_base.proofs.ShiftLaws.{shifted_is}
use Rattle.pdn_base.proofs.word.moved_bits.Goals as goal
use Rattle.pdn_base.specs.Words.{moved}

pub returns-else-count-eq64 : goal.returns-else-count-eq64
unfolding moved
returns-else-count-eq64 c = shifted_is c.args.bits c.args.from c.args.count c.args.to c.requires.to c.if-count-eq64.false
