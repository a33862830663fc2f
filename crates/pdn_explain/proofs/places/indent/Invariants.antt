use Rattle.std.proofs.Common.{◌≡◌, ◌++◌, replicate}
use Rattle.pdn_explain.proofs.places.indent.Given as goal

abbrev pub invariant-loop : goal.invariant-loop
invariant-loop l = l.text.items ≡ l.initial.text.items ++ replicate l.counter 32
