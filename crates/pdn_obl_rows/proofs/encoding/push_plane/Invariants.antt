use Rattle.std.proofs.Common.{◌≡◌, ◌*◌, ◌++◌, map}
use Rattle.std.specs.List.{range_with_len}
use Rattle.pdn_obl_rows.specs.Encoding.{word_of, lanes_of}
use Rattle.pdn_obl_rows.proofs.encoding.push_plane.Given as goal

abbrev pub invariant-loop-j : goal.invariant-loop-j
invariant-loop-j l = l.words.items ≡ l.initial.words.items ++ map (λ j. word_of (lanes_of l.rows l.lanes) (64 * j) 64) (range_with_len 0 l.j)
