use Rattle.std.proofs.Common.{◌≡◌, ◌+◌, take}
use Rattle.pdn_obl_rows.specs.Lists.{widths}
use Rattle.pdn_obl_rows.proofs.encoding.word_count.Given as goal

abbrev pub invariant-loop-column : goal.invariant-loop-column
invariant-loop-column l = l.planes ≡ widths (take l.column l.kinds) + 1
