use Rattle.std.proofs.Common.{◌≡◌}
use Rattle.pdn_network.specs.Network.{rows_b}
use Rattle.pdn_network.proofs.network.rows_b.Given as goal

abbrev pub invariant-loop-before : goal.invariant-loop-before
invariant-loop-before l = l.rows.items ≡ rows_b l.seed l.before
