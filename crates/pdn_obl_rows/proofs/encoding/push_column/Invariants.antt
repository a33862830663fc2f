use Rattle.std.proofs.Common.{◌≡◌, ◌++◌}
use Rattle.pdn_obl_rows.specs.Encoding.{column_words}
use Rattle.pdn_obl_rows.proofs.encoding.push_column.Given as goal

abbrev pub invariant-loop-bit : goal.invariant-loop-bit
invariant-loop-bit l = l.words.items ≡ l.initial.words.items ++ column_words l.rows l.len l.column l.bit
