use Rattle.std.proofs.Common.{◌≡◌, ◌++◌, take}
use Rattle.pdn_obl_rows.specs.Encoding.{plane_words, valid_lane, columns_words}
use Rattle.pdn_obl_rows.proofs.encoding.encode.Given as goal

abbrev pub invariant-loop-column : goal.invariant-loop-column
invariant-loop-column l = l.words.items ≡ plane_words (valid_lane l.rows) l.len ++ columns_words l.rows l.len 0 (take l.column l.kinds)
