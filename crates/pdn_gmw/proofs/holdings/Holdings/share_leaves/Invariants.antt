use Rattle.std.proofs.Common.{◌≡◌, length, take}
use Rattle.std.specs.List.{fold}
use Rattle.pdn_gmw.specs.Known.{leaf_settled}
use Rattle.pdn_gmw.proofs.holdings.Holdings.share_leaves.Given as goal

abbrev pub invariant-loop-leaf : goal.invariant-loop-leaf
invariant-loop-leaf l = record {
  long : length l.shares ≡ length l.initial.shares;
  shares : l.shares ≡ fold (leaf_settled l.self) l.initial.shares (take l.leaf-index l.leaves);
}
