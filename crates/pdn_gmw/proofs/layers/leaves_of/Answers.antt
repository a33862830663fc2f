use Rattle.std.proofs.Common.{◌≡◌, ◌<◌, ℕ, length, ap, ◌∙◌, arith}
use Rattle.std.specs.Prelude.{slice_index_or}
use Rattle.std.proofs.lemmas.List.{get_or_default}
use Rattle.pdn_circuit.specs.declared.gate.Gate.{Gate}
use Rattle.pdn_circuit.specs.declared.gate.Gate.TheVariants.{Const}
use Rattle.pdn_circuit.specs.Gates.{Net}
use Rattle.pdn_gmw.proofs.Hearing.{inputs_more, one_input}
use Rattle.pdn_gmw.proofs.Leaves.{leaves_more}
use Rattle.pdn_gmw.proofs.layers.leaves_of.Goals as goal

pub loop-k-preserved : goal.loop-k-preserved
loop-k-preserved c =
    let net : Net = c.args.circuit.now in
    let inv = c.loop-k.invariant in
    let few = inv.few in
    let k : ℕ = c.loop-k.k in
    let gate : Gate = c.index.result.now in
    let here : k < length net.gates = omega (arith, c.loop-k-test.true, inv.end) in
    let item : gate ≡ slice_index_or net.gates k gate = c.index.ensures ∙ ap (λ (n : Net). slice_index_or n.gates k gate) c.circuit.view_is in
    record {
      end = inv.end;
      inputs = inputs_more net.gates k c.loop-k.inputs c.in_ok-inputs.inputs gate here item inv.inputs c.in_ok-inputs.ensures.inputs;
      few = omega (arith, c.in_ok-inputs.ensures.inputs, one_input c.loop-k.inputs gate);
      leaves = c.in_ok-inputs.ensures.leaves ∙ leaves_more net.gates k c.loop-k.inputs gate c.loop-k.leaves.items (item ∙ get_or_default net.gates k gate (Const 0) here) inv.inputs inv.leaves;
    }
