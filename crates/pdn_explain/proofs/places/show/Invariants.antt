use Rattle.std.proofs.Common.{◌≡◌, ◌++◌, take, map}
use Rattle.pdn_explain.specs.Places.{shown}
use Rattle.pdn_explain.proofs.places.show.Given as goal

abbrev pub invariant-loop-byte : goal.invariant-loop-byte
invariant-loop-byte l = l.text.items ≡ l.initial.text.items ++ map shown (take l.byte-index l.line)
