use Rattle.std.proofs.Common.{◌≡◌, ◌≤◌, ◌<◌, length, List, ℕ}
use Rattle.std.specs.List.{All}
use Rattle.pdn_obl_rows.specs.Lists.{words_for}
use Rattle.pdn_circuit_tests.proofs.lists.input_list.Given as goal

abbrev pub invariant-loop : goal.invariant-loop
invariant-loop l = record {
  longer : length l.initial.b.gates ≤ length l.b.gates;
  count : length l.all.items ≡ l.counter;
  long : All (λ (plane : List ℕ). length plane ≡ words_for l.fn.len) l.all.items;
  there : All (λ (plane : List ℕ). All (λ gate. gate < length l.b.gates) plane) l.all.items;
}
