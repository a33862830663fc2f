use Rattle.std.proofs.Common.{◌≡◌, take}
use Rattle.pdn_obl_rows.specs.Operators.{length_of}
use Rattle.pdn_obl_rows.proofs.appending.total_len.Given as goal

abbrev pub invariant-loop-k : goal.invariant-loop-k
invariant-loop-k l = l.len ≡ length_of (take l.k l.lists)
