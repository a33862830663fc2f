use Rattle.std.proofs.Common.{length}
use Rattle.pdn_circuit.specs.declared.gate.Gate.TheVariants.{Input}
use Rattle.pdn_circuit.specs.Gates.{input_count}
use Rattle.pdn_circuit.specs.Building.{Makes}
use Rattle.pdn_site.specs.Built.{words_gates}
use Rattle.pdn_site.proofs.laying.take_inputs.Given as goal

abbrev pub invariant-loop : goal.invariant-loop
invariant-loop l = record {
  made : Makes l.initial.b l.b (words_gates (Input l.site) (input_count l.site l.initial.b.gates) l.counter (length l.initial.b.gates)) l.first;
}
