use Rattle.std.proofs.Common.{◌≡◌, take}
use Rattle.std.specs.List.{flat_map}
use Rattle.pdn_gmw.specs.Known.{leaf_r}
use Rattle.pdn_gmw.proofs.input_masks.r_words.Given as goal

abbrev pub invariant-loop-leaf : goal.invariant-loop-leaf
invariant-loop-leaf l = record { words : l.words.items ≡ flat_map (leaf_r l.site l.r) (take l.leaf-index l.leaves) }
