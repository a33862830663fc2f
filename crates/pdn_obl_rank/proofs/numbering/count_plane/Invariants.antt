use Rattle.std.proofs.Common.{◌≡◌, map, take, List, ℕ}
use Rattle.std.specs.Prelude.{slice_index}
use Rattle.pdn_obl_rank.proofs.numbering.count_plane.Given as goal

abbrev pub invariant-loop-k : goal.invariant-loop-k
invariant-loop-k l = l.words.items ≡ map (λ (number : List ℕ). slice_index number l.bit) (take l.k l.ints)
