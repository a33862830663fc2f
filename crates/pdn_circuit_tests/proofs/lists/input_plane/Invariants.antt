use Rattle.std.proofs.Common.{◌≡◌, ◌≤◌, ◌<◌, length}
use Rattle.std.specs.List.{All}
use Rattle.pdn_circuit_tests.proofs.lists.input_plane.Given as goal

abbrev pub invariant-loop : goal.invariant-loop
invariant-loop l = record {
  longer : length l.initial.b.gates ≤ length l.b.gates;
  count : length l.words.items ≡ l.counter;
  there : All (λ gate. gate < length l.b.gates) l.words.items;
}
