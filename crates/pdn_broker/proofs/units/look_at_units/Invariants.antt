use Rattle.std.proofs.Common.{ℕ, ◌<◌, get_or}
use Rattle.pdn_site.specs.Engines.{no_unit}
use Rattle.pdn_broker.specs.Units.{CircuitStands}
use Rattle.pdn_broker.proofs.units.look_at_units.Given as goal

abbrev pub invariant-loop-k : goal.invariant-loop-k
invariant-loop-k l = (j : ℕ) → j < l.k → CircuitStands (get_or l.units j no_unit).circuit
