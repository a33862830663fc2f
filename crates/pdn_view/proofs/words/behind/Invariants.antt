use Rattle.std.proofs.Common.{◌≡◌, drop}
use Rattle.pdn_view.specs.Guesses.{words}
use Rattle.pdn_view.specs.Cuts.{words_left}
use Rattle.pdn_view.proofs.words.behind.Given as goal

abbrev pub invariant-loop : goal.invariant-loop
invariant-loop l = words_left l.left ≡ drop l.counter (words l.line)
