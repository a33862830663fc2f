use Rattle.std.proofs.Common.{◌≡◌, ◌++◌, take}
use Rattle.pdn_obl_rank.proofs.counting.push_all.Given as goal

abbrev pub invariant-loop-place : goal.invariant-loop-place
invariant-loop-place l = l.places.items ≡ l.initial.places.items ++ take l.place-index l.more
