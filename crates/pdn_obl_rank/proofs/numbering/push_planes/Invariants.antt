use Rattle.std.proofs.Common.{◌≡◌, ◌++◌, take}
use Rattle.pdn_obl_rank.proofs.numbering.push_planes.Given as goal

abbrev pub invariant-loop-plane : goal.invariant-loop-plane
invariant-loop-plane l = l.planes.items ≡ l.initial.planes.items ++ take l.plane-index l.more
