use Rattle.std.proofs.Common.{◌≤◌, ◌<◌, ◌^◌, ℕ, length}
use Rattle.std.specs.Prelude.{slice_index_or}
use Rattle.pdn_gmw.specs.Layers.{no_layer}
use Rattle.pdn_gmw.proofs.layers.most_ands.Given as goal

abbrev pub invariant-loop-layer : goal.invariant-loop-layer
invariant-loop-layer l = record {
  most : (d : ℕ) → d < l.layer-index → length (slice_index_or l.layers d no_layer).ands ≤ l.most;
  few : l.most < 2 ^ 31;
}
