use Rattle.std.proofs.Common.{◌≡◌, take}
use Rattle.pdn_site.proofs.view.PublicView.copy.Given as goal

abbrev pub invariant-loop-pair : goal.invariant-loop-pair
invariant-loop-pair l = l.dirs.items ≡ take l.pair-index l.pair-items
