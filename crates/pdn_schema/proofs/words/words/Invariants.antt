use Rattle.std.proofs.Common.{◌≡◌, ◌++◌, drop}
use Rattle.pdn_schema.specs.Cut.{cut_from}
use Rattle.pdn_schema.specs.Words.{word_piece, words_of}
use Rattle.pdn_schema.proofs.words.words.Given as goal

abbrev pub invariant-loop-i : goal.invariant-loop-i
invariant-loop-i l = l.out.items ++ cut_from word_piece l.left (drop l.i l.line) ≡ words_of l.line
