-- The plain words that the circuits of a prepared query read, whatever the tape.
use Rattle.std.specs.Prelude.{ℕ, List, []}
use Rattle.std.specs.List.{flat_map}
use Rattle.pdn_circuit.specs.Gates.{Net, InputWords, output_words}
use Rattle.pdn_site.specs.declared.unit.UnitKind.{UnitKind}
use Rattle.pdn_site.specs.declared.unit.UnitKind.TheVariants.{Plain, Secure, Root}
use Rattle.pdn_broker.specs.Runs.{Both}
use Rattle.pdn_broker.specs.Units.{net_or, secure_numbers}
use Rattle.pdn_broker.specs.Running.{unit_at, engines_own}
use Rattle.pdn_broker.specs.Prepared.{PreparedModel}

abbrev pub net_at : PreparedModel → ℕ → Net
net_at p u = net_or (unit_at p u).circuit

abbrev pub inputs_of : Both → List ℕ → InputWords
inputs_of own given = record { a = own.a; b = own.b; given = given }

-- both sites' words of a secure unit
abbrev pub secure_plain : PreparedModel → ℕ → InputWords
secure_plain p u = inputs_of (engines_own p.a p.b (unit_at p u)) []

-- both sites' words of the root, and the output words of the secure units, one after the other
abbrev pub root_plain : PreparedModel → InputWords
root_plain p = inputs_of p.own (flat_map (λ u. output_words (secure_plain p u) (net_at p u)) (secure_numbers p.units))

-- a plain unit has no circuit
abbrev pub plain_by : PreparedModel → ℕ → UnitKind → InputWords
plain_by p u (Plain site) = record { a = []; b = []; given = [] }
plain_by p u Secure = secure_plain p u
plain_by p u Root = root_plain p

abbrev pub plain_at : PreparedModel → ℕ → InputWords
plain_at p u = plain_by p u (unit_at p u).kind
