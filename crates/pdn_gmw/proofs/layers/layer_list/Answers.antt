use Rattle.std.proofs.Common.{◌≡◌, ◌<◌, ℕ, List, length, ap, ◌∙◌, arith}
use Rattle.std.specs.Prelude.{slice_index, slice_index_or}
use Rattle.std.proofs.lemmas.List.{get_or_default, length-set, get_or_read}
use Rattle.pdn_circuit.specs.declared.gate.Gate.{Gate}
use Rattle.pdn_circuit.specs.declared.gate.Gate.TheVariants.{Const}
use Rattle.pdn_circuit.specs.Gates.{Net}
use Rattle.pdn_circuit.specs.Depths.{depths_of}
use Rattle.pdn_gmw.specs.Layers.{no_layer, LayerWords, layer_more}
use Rattle.pdn_gmw.proofs.Layering.{length-depths, no_deeper, layers_more, number_more, one_and}
use Rattle.pdn_gmw.proofs.layers.layer_list.Goals as goal

pub index-requires : goal.index-requires
index-requires c =
    omega (arith, c.loop-k-test.true, c.loop-k.invariant.end, ap length c.in_ok-depths.ensures.depths, length-depths c.args.circuit.now.gates)

pub index_mut-layer-requires : goal.index_mut-layer-requires
index_mut-layer-requires c =
    let net : Net = c.args.circuit.now in
    let ds : c.in_ok-depths.depths.items ≡ depths_of net.gates = c.in_ok-depths.ensures.depths in
    let k : ℕ = c.loop-k.k in
    let within : k < length c.in_ok-depths.depths.items = omega (arith, c.loop-k-test.true, c.loop-k.invariant.end, ap length ds, length-depths net.gates) in
    let depth : c.index.result.now ≡ slice_index (depths_of net.gates) k = get_or_read c.in_ok-depths.depths.items k c.index.result.now within c.index.ensures 0 ∙ ap (λ (xs : List ℕ). slice_index xs k) ds in
    omega (arith, depth, no_deeper net k, c.loop-k.invariant.long)

pub loop-k-preserved : goal.loop-k-preserved
loop-k-preserved c =
    let net : Net = c.args.circuit.now in
    let inv = c.loop-k.invariant in
    let few = inv.few in
    let ds : c.in_ok-depths.depths.items ≡ depths_of net.gates = c.in_ok-depths.ensures.depths in
    let k : ℕ = c.loop-k.k in
    let gate : Gate = c.index-in-loop-k.result.now in
    let here : k < length net.gates = omega (arith, c.loop-k-test.true, inv.end) in
    let within : k < length c.in_ok-depths.depths.items = omega (arith, here, ap length ds, length-depths net.gates) in
    let depth : c.index.result.now ≡ slice_index (depths_of net.gates) k = get_or_read c.in_ok-depths.depths.items k c.index.result.now within c.index.ensures 0 ∙ ap (λ (xs : List ℕ). slice_index xs k) ds in
    let item : gate ≡ slice_index_or net.gates k gate = c.index-in-loop-k.ensures ∙ ap (λ (n : Net). slice_index_or n.gates k gate) c.circuit.view_is in
    let room : c.index.result.now < length c.loop-k.layers.items = omega (arith, depth, no_deeper net k, inv.long) in
    let layer : c.index_mut-layer.result.now ≡ slice_index_or c.loop-k.layers.items c.index.result.now no_layer
    = c.index_mut-layer.ensures.value ∙ get_or_default c.loop-k.layers.items c.index.result.now c.index_mut-layer.result.now no_layer room in
    record {
      end = inv.end;
      ands = c.in_ok-ands.ensures.ands ∙ number_more net.gates k c.loop-k.ands gate here item inv.ands;
      few = omega (arith, c.in_ok-ands.ensures.ands, one_and gate);
      long = length-set c.loop-k.layers.items c.index.result.now c.add.new.self ∙ inv.long;
      at = layers_more net c.loop-k.layers.items k c.index.result.now c.loop-k.ands gate c.add.new.self (item ∙ get_or_default net.gates k gate (Const 0) here) depth inv.ands inv.long inv.at
          (c.in_ok-ands.ensures.layer ∙ ap (λ (l : LayerWords). layer_more l k c.loop-k.ands gate) layer);
    }

pub rooms_of-requires : goal.rooms_of-requires
rooms_of-requires c = ap length (c.deref.ensures.value ∙ c.in_ok-depths.ensures.depths) ∙ length-depths c.args.circuit.now.gates
