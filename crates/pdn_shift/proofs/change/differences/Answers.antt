use Rattle.std.proofs.Common.{length, sym, ap, ◌∙◌}
use Rattle.pdn_circuit.proofs.Reading.{length-values}
use Rattle.pdn_shift.proofs.change.differences.Goals as goal

pub xor_words-requires-clause-b : goal.xor_words-requires-clause-b
xor_words-requires-clause-b c =
    ap length (c.deref-2.ensures.value ∙ c.in_ok-new.ensures) ∙ length-values c.args.second.now c.args.circuit.now.gates
    ∙ sym (ap length (c.deref.ensures.value ∙ c.in_ok-old.ensures) ∙ length-values c.args.first.now c.args.circuit.now.gates)
    ∙ c.deref.ensures.len ∙ sym c.len.ensures ∙ sym c.in_ok-words.ensures.len ∙ sym c.deref_mut.ensures.len
