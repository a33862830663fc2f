use Rattle.std.proofs.Common.{◌≡◌}
use Rattle.pdn_network.specs.Network.{rows_a}
use Rattle.pdn_network.proofs.network.rows_a.Given as goal

abbrev pub invariant-loop-before : goal.invariant-loop-before
invariant-loop-before l = l.rows.items ≡ rows_a l.seed l.before
