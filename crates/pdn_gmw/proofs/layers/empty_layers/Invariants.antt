use Rattle.std.proofs.Common.{◌≡◌, replicate}
use Rattle.pdn_gmw.specs.Layers.{no_layer}
use Rattle.pdn_gmw.proofs.layers.empty_layers.Given as goal

abbrev pub invariant-loop-room : goal.invariant-loop-room
invariant-loop-room l = record { layers : l.layers.items ≡ replicate l.room-index no_layer }
