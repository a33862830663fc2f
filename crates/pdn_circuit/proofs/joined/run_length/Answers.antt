use Rattle.std.proofs.Common.{rules, ◌≡◌, ◌+◌, ◌≤◌, ◌<◌, ◌++◌, List, [], ◌∷◌, length, take, ℕ, arith, refl, sym, ap, ◌∙◌, get_or}
use Rattle.std.proofs.lemmas.List.{take_more}
use Rattle.std.proofs.lemmas.List.FromFn.{map-range_with_len_more}
use Rattle.pdn_circuit.specs.declared.gate.Gate.{Gate}
use Rattle.pdn_circuit.specs.Evaluating.{joined, run_gates}
use Rattle.pdn_circuit.proofs.joined.run_length.Goals as goal

pub loop-len-preserved : goal.loop-len-preserved
loop-len-preserved c =
    let n = c.loop-len.len in
    let gates = c.args.gates.now in
    let joint = c.args.joint in
    let a = c.args.from.0 in
    let b = c.args.from.1 in
    let gate = c.index-gates-len.result in
    let here : gate ≡ joined joint (a + n) (b + n) = c.reads.ensures c.if-reads.true in
    record {
      within = omega (arith, c.loop-len-test.true);
      most = omega (arith, c.if-len-most.true);
      gates = take_more gates n gate c.loop-len-test.true
          ∙ ap (λ (gs : List Gate). gs ++ get_or gates n gate ∷ []) c.loop-len.invariant.gates
          ∙ ap (λ (g : Gate). run_gates joint a b n ++ g ∷ []) (sym c.index-gates-len.is ∙ here)
          ∙ sym (map-range_with_len_more (λ k. joined joint (a + k) (b + k)) 0 n n (omega arith));
    }
