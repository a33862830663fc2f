use Rattle.std.proofs.Common.{◌≡◌, max, take}
use Rattle.std.specs.List.{fold}
use Rattle.pdn_gmw.proofs.layers.deepest.Given as goal

abbrev pub invariant-loop-depth : goal.invariant-loop-depth
invariant-loop-depth l = record { top : l.top ≡ fold max 0 (take l.depth-index l.depths) }
