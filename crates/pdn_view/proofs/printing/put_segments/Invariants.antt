use Rattle.std.proofs.Common.{◌≡◌, ◌++◌, take}
use Rattle.pdn_view.specs.Lines.{segment_lines, lines_text}
use Rattle.pdn_view.proofs.printing.put_segments.Given as goal

abbrev pub invariant-loop-i : goal.invariant-loop-i
invariant-loop-i l = l.out.items ≡ l.initial.out.items ++ lines_text (segment_lines 0 (take l.i l.dirs))
