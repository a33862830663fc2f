use Rattle.std.proofs.Common.{◌≡◌, map, filter}
use Rattle.std.specs.List.{range_with_len}
use Rattle.pdn_obl_rows.specs.Lists.{row_at, is_valid}
use Rattle.pdn_obl_rows.specs.Encoding.{list_from}
use Rattle.pdn_obl_rows.proofs.decoding.decode.Given as goal

abbrev pub invariant-loop-row : goal.invariant-loop-row
invariant-loop-row l = l.rows.items ≡ map (row_at l.words (list_from 0 l.kinds l.len)) (filter (is_valid l.words (list_from 0 l.kinds l.len)) (range_with_len 0 l.row))
