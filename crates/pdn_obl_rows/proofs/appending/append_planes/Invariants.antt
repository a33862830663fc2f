use Rattle.std.proofs.Common.{◌≡◌, ◌≤◌, ◌<◌, ◌-◌, length, List, ℕ}
use Rattle.std.specs.List.{All, range_with_len}
use Rattle.pdn_circuit.specs.Blocks.{each, ◌>>=◌}
use Rattle.pdn_circuit.specs.Building.{Along}
use Rattle.pdn_circuit.specs.Laying.{lay_gates}
use Rattle.pdn_circuit.proofs.Making.{give_after}
use Rattle.pdn_obl_rows.specs.Lists.{widths}
use Rattle.pdn_obl_rows.specs.Operators.{append_picks, kinds_of, plane_of}
use Rattle.pdn_obl_rows.proofs.appending.append_planes.Given as goal

abbrev pub invariant-loop-p : goal.invariant-loop-p
invariant-loop-p l = record {
  along : Along l.initial.b (each (λ p. lay_gates (append_picks (plane_of p) 0 l.lists)) (range_with_len 0 (widths (kinds_of l.lists)))) l.b
      (each (λ p. lay_gates (append_picks (plane_of p) 0 l.lists)) (range_with_len l.p (widths (kinds_of l.lists) - l.p)) >>= give_after l.planes.items);
  longer : length l.initial.b.gates ≤ length l.b.gates;
  there : All (λ (plane : List ℕ). All (λ gate. gate < length l.b.gates) plane) l.planes.items;
}
