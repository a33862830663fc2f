use Rattle.std.proofs.Common.{◌≡◌, take}
use Rattle.pdn_site.specs.Directories.{traced}
use Rattle.pdn_site.proofs.directories.traced.Given as goal

abbrev pub invariant-loop-leaf : goal.invariant-loop-leaf
invariant-loop-leaf l = l.values.items ≡ traced l.tables (take l.leaf-index l.leaves)
