use Rattle.std.proofs.Common.{ap, sym, ◌∙◌}
use Rattle.pdn_circuit.specs.declared.gate.Gate.{Gate}
use Rattle.std.specs.List.{count_by}
use Rattle.std.proofs.Common.{List}
use Rattle.pdn_circuit.specs.Gates.{Net}
use Rattle.pdn_circuit.specs.Gates.{is_and}
use Rattle.pdn_dealer.proofs.SectionWords.{length-ands}
use Rattle.pdn_dealer.proofs.sections.and_gates.Goals as goal

pub returns-clause-count : goal.returns-clause-count
returns-clause-count c =
    c.count_ands.ensures.count
    ∙ ap (λ (gs : List Gate). count_by is_and gs) (c.deref.ensures.value ∙ ap (λ (net : Net). net.gates) c.circuit.view_is)
    ∙ sym (length-ands c.args.circuit.now.gates)
