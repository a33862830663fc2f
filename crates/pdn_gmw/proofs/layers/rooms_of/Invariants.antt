use Rattle.std.proofs.Common.{◌≡◌, ◌+◌, max, length}
use Rattle.std.specs.List.{fold}
use Rattle.pdn_gmw.proofs.layers.rooms_of.Given as goal

abbrev pub invariant-loop-k : goal.invariant-loop-k
invariant-loop-k l = record {
  end : l.k-end ≡ length l.circuit.gates;
  long : length l.rooms.items ≡ fold max 0 l.depths + 1;
}
