use Rattle.std.proofs.Common.{◌≡◌, ◌++◌, replicate}
use Rattle.pdn_circuit.specs.Compare.{zero_gate}
use Rattle.pdn_obl_rows.proofs.conditions.filled.Given as goal

abbrev pub invariant-loop : goal.invariant-loop
invariant-loop l = l.wide.items ≡ l.planes ++ replicate l.counter zero_gate
