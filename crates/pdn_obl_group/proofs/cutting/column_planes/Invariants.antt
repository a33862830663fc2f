use Rattle.std.proofs.Common.{◌≡◌, ◌-◌, ◌<◌, length}
use Rattle.std.specs.Int.{bit_at}
use Rattle.std.specs.List.{All, range_with_len}
use Rattle.pdn_circuit.specs.Blocks.{each, ◌>>=◌}
use Rattle.pdn_circuit.specs.Building.{Along}
use Rattle.pdn_circuit.proofs.Making.{give_after}
use Rattle.pdn_obl_group.specs.Operators.{bit_plane}
use Rattle.pdn_obl_group.proofs.cutting.column_planes.Given as goal

abbrev pub invariant-loop-bit : goal.invariant-loop-bit
invariant-loop-bit l = record {
  along : Along l.initial.b (each (λ bit. bit_plane (bit_at l.number bit)) (range_with_len 0 l.width)) l.b (each (λ bit. bit_plane (bit_at l.number bit)) (range_with_len l.bit (l.width - l.bit)) >>= give_after l.planes.items);
  there : All (λ gate. gate < length l.b.gates) l.planes.items;
  count : length l.planes.items ≡ l.bit;
}
