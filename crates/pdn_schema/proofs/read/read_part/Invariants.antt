use Rattle.std.proofs.Common.{◌≡◌, ◌≤◌, ◌+◌, drop}
use Rattle.pdn_schema.specs.Cut.{cut_from}
use Rattle.pdn_schema.specs.Words.{line_piece}
use Rattle.pdn_schema.specs.Reading.{read_lines, read_part}
use Rattle.pdn_schema.proofs.read.read_part.Given as goal

abbrev pub invariant-loop-i : goal.invariant-loop-i
invariant-loop-i l = record {
  small : l.line ≤ l.i + 1;
  rest : read_lines l.line l.p (cut_from line_piece l.left (drop l.i l.bytes)) ≡ read_part l.bytes;
}
