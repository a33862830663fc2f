use Rattle.std.proofs.Common.{◌≡◌, take}
use Rattle.pdn_obl_rank.specs.Keys.{word_columns}
use Rattle.pdn_obl_rank.proofs.numbers.word_columns.Given as goal

abbrev pub invariant-loop-k : goal.invariant-loop-k
invariant-loop-k l = l.numbers.items ≡ word_columns l.columns l.word (take l.k l.places)
