use Rattle.std.proofs.Common.{◌≡◌, take}
use Rattle.pdn_base.specs.Words.{xor_lists}
use Rattle.pdn_broker.proofs.opening.xor_words.Given as goal

abbrev pub invariant-loop-k : goal.invariant-loop-k
invariant-loop-k l = l.words.items ≡ xor_lists (take l.k l.a) (take l.k l.b)
