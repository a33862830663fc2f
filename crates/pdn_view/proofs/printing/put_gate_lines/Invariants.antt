use Rattle.std.proofs.Common.{◌≡◌, ◌++◌, map, take}
use Rattle.pdn_view.specs.Lines.{gate_line, lines_text}
use Rattle.pdn_view.proofs.printing.put_gate_lines.Given as goal

abbrev pub invariant-loop-gate : goal.invariant-loop-gate
invariant-loop-gate l = l.out.items ≡ l.initial.out.items ++ lines_text (map gate_line (take l.gate-index l.gates))
