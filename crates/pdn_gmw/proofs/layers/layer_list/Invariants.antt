use Rattle.std.proofs.Common.{◌≡◌, ◌≤◌, ◌+◌, ℕ, length}
use Rattle.std.specs.Prelude.{slice_index_or}
use Rattle.pdn_gmw.specs.Steps.{frame_count}
use Rattle.pdn_gmw.specs.Layers.{no_layer, number_of_and, layer_to}
use Rattle.pdn_gmw.proofs.layers.layer_list.Given as goal

abbrev pub invariant-loop-k : goal.invariant-loop-k
invariant-loop-k l = record {
  end : l.k-end ≡ length l.circuit.gates;
  ands : l.ands ≡ number_of_and l.circuit.gates l.k;
  few : l.ands ≤ l.k;
  long : length l.layers.items ≡ frame_count l.circuit + 1;
  at : (d : ℕ) → d ≤ frame_count l.circuit → slice_index_or l.layers.items d no_layer ≡ layer_to l.circuit.gates l.k d;
}
