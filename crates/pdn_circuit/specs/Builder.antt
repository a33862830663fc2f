-- What the fields of a builder stand for.
use Rattle.std.specs.Prelude.{◌≡◌}
use Rattle.pdn_circuit.specs.declared.builder.Builder.TheInside.{Inside}
use Rattle.pdn_circuit.specs.Building.{Made, IsMade, IsTally}

abbrev pub made_of : Inside → Made
made_of b = record { gates = b.gates.items; most_ands = b.most_ands; most_gates = b.most_gates }

pub record IsBuilder (b : Inside) : Type 0 where
  pub made : IsMade (made_of b)
  pub tally : IsTally b.tally b.gates.items
