use Rattle.pdn_site.proofs.Sizes.{size_of}
use Rattle.pdn_site.proofs.root.+tree_words.Given as goal

abbrev pub decreases-tree_words : goal.decreases-tree_words
decreases-tree_words l = size_of l.node.now
