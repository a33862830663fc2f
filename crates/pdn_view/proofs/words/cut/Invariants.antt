use Rattle.std.proofs.Common.{◌≡◌, true, take}
use Rattle.pdn_view.specs.Cuts.{without}
use Rattle.pdn_view.proofs.words.cut.Given as goal

abbrev pub invariant-loop-i : goal.invariant-loop-i
invariant-loop-i l = without l.byte (take l.i l.text) ≡ true
