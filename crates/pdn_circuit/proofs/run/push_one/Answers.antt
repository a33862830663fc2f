use Rattle.std.proofs.Common.{ap, sym, ◌∙◌, ◌≡◌, ◌<◌, List, length, get_or, subst, take, rules}
use Rattle.pdn_circuit.specs.Gates.{Net, IsCircuit, values}
use Rattle.pdn_circuit.specs.declared.gate.Gate.{Gate}
use Rattle.pdn_circuit.proofs.Reading.{can_read}
use Rattle.pdn_circuit.proofs.run.push_one.Goals as goal

pub gate_word-word-requires : goal.gate_word-word-requires
gate_word-word-requires c =
    let words = c.args.words.now.items in
    let gates = c.args.circuit.now.gates in
    let k = length words in
    let gate = c.index.result.now in
    let same : c.circuit.inside.gates.items ≡ gates = ap (λ (net : Net). net.gates) c.circuit.view_is in
    can_read c.args.circuit.now c.args.inputs.now c.as_slice.result.now k gate
    (subst (λ (net : Net). IsCircuit net) c.circuit.view_is c.circuit.invariant)
    c.requires.counts
    c.requires.more
    (c.as_slice.ensures.value ∙ c.requires.stand.words_are)
    (c.index.ensures ∙ ap (λ (gs : List Gate). get_or gs c.len.result gate) same ∙ ap (λ n. get_or gates n gate) (c.len.ensures ∙ search rules))
