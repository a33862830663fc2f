use Rattle.std.proofs.Common.{length}
use Rattle.pdn_circuit.specs.declared.gate.Gate.TheVariants.{Given}
use Rattle.pdn_circuit.specs.Gates.{given_count}
use Rattle.pdn_circuit.specs.Building.{Makes}
use Rattle.pdn_site.specs.Built.{words_gates}
use Rattle.pdn_site.proofs.laying.take_given.Given as goal

abbrev pub invariant-loop : goal.invariant-loop
invariant-loop l = record {
  made : Makes l.initial.b l.b (words_gates Given (given_count l.initial.b.gates) l.counter (length l.initial.b.gates)) l.first;
}
