use Rattle.pdn_site.proofs.Sizes.{size_of}
use Rattle.pdn_site.proofs.root_lengths.+root_sizes.Given as goal

abbrev pub decreases-root_sizes : goal.decreases-root_sizes
decreases-root_sizes l = size_of l.node.now
