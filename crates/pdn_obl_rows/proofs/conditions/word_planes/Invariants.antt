use Rattle.std.proofs.Common.{◌≡◌, take}
use Rattle.pdn_obl_rows.specs.Lists.{word_planes}
use Rattle.pdn_obl_rows.proofs.conditions.word_planes.Given as goal

abbrev pub invariant-loop-plane : goal.invariant-loop-plane
invariant-loop-plane l = l.words.items ≡ word_planes l.word (take l.plane-index l.planes)
