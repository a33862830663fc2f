use Rattle.std.proofs.Common.{◌≡◌, take}
use Rattle.pdn_view.specs.Views.{all_slices}
use Rattle.pdn_view.proofs.due.all_slices.Given as goal

abbrev pub invariant-loop-pair : goal.invariant-loop-pair
invariant-loop-pair l = l.dues.items ≡ all_slices (take l.pair-index l.dirs)
