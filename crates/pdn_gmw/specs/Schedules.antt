-- What a schedule keeps: a circuit, and its layers.
use Rattle.std.specs.Arc.{arc_value}
use Rattle.pdn_circuit.specs.Gates.{IsCircuit}
use Rattle.pdn_gmw.specs.declared.schedule.Schedule.TheInside.{Inside}
use Rattle.pdn_gmw.specs.Layers.{AreLayers}

pub record IsSchedule (s : Inside) : Type 0 where
  pub circuit : IsCircuit (arc_value s.circuit)
  pub layers : AreLayers (arc_value s.circuit) (arc_value s.layers)
