use Rattle.std.proofs.Common.{◌≡◌, ◌++◌, drop}
use Rattle.pdn_base.specs.Codes.{before_zero}
use Rattle.pdn_base.proofs.code.before_zero.Given as goal

abbrev pub invariant-loop-byte : goal.invariant-loop-byte
invariant-loop-byte l = l.front.items ++ before_zero (drop l.byte-index l.bytes) ≡ before_zero l.bytes
