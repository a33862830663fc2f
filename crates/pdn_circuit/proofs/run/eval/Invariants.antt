use Rattle.std.proofs.Common.{length, ◌-◌}
use Rattle.pdn_circuit.specs.Evaluating.{Stands}
use Rattle.pdn_circuit.proofs.run.eval.Given as goal

abbrev pub invariant-loop-circuit : goal.invariant-loop-circuit
invariant-loop-circuit l = Stands l.inputs l.circuit.gates l.words.items

abbrev pub decreases-loop-circuit : goal.decreases-loop-circuit
decreases-loop-circuit l = length l.circuit.gates - length l.words.items
