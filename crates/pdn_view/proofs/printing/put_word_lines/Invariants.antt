use Rattle.std.proofs.Common.{◌≡◌, ◌++◌, ◌∷◌, [], map, take}
use Rattle.pdn_view.specs.Lines.{word_line, lines_text}
use Rattle.pdn_view.proofs.printing.put_word_lines.Given as goal

abbrev pub invariant-loop-word : goal.invariant-loop-word
invariant-loop-word l = l.out.items ≡ l.initial.out.items ++ lines_text (map (word_line (l.mark ∷ [])) (take l.word-index l.words))
