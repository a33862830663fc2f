use Rattle.std.proofs.Common.{◌≡◌, map, List, ℕ}
use Rattle.std.specs.Prelude.{slice_index}
use Rattle.std.specs.List.{range_with_len}
use Rattle.pdn_obl_rank.proofs.numbering.count_column.Given as goal

abbrev pub invariant-loop-bit : goal.invariant-loop-bit
invariant-loop-bit l = l.planes.items ≡ map (λ bit. map (λ (number : List ℕ). slice_index number bit) l.ints) (range_with_len 0 l.bit)
