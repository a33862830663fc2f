use Rattle.pdn_site.proofs.Standing.{stands_whole}
use Rattle.pdn_site.proofs.engine.SiteEngine.root_words.Goals as goal

pub tree_words-requires : goal.tree_words-requires
tree_words-requires c = stands_whole _ _ _ c.self.invariant.staged
