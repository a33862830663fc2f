use Rattle.std.proofs.Common.{◌≡◌, length}
use Rattle.pdn_view.specs.Guesses.{values_in}
use Rattle.pdn_view.specs.Cuts.{words_left}
use Rattle.pdn_view.proofs.Cutting.{behind_values}
use Rattle.pdn_view.proofs.guesses.values_in.Given as goal

abbrev pub invariant-loop-left : goal.invariant-loop-left
invariant-loop-left l = values_in (words_left l.fn.text) ≡ behind_values l.values.items (values_in (words_left l.left))

abbrev pub decreases-loop-left : goal.decreases-loop-left
decreases-loop-left l = length (words_left l.left)
