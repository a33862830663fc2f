use Rattle.std.proofs.Common.{◌≡◌, ◌++◌, map, take}
use Rattle.pdn_view.specs.Views.{part_of}
use Rattle.pdn_view.specs.Lines.{parts_lines, lines_text}
use Rattle.pdn_view.proofs.printing.put_parts.Given as goal

abbrev pub invariant-loop-i : goal.invariant-loop-i
invariant-loop-i l = l.out.items ≡ l.initial.out.items ++ lines_text (parts_lines l.first (map part_of (take l.i l.units)))
