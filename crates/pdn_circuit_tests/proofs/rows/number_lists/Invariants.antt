use Rattle.std.proofs.Common.{◌≡◌, ◌≤◌, ◌∷◌, [], length, take}
use Rattle.std.specs.Prelude.{sum}
use Rattle.pdn_base.specs.declared.marks.Kind.TheVariants as kind
use Rattle.pdn_obl_rows.specs.Operators.{AllOf, AllThere, length_of}
use Rattle.pdn_circuit_tests.proofs.rows.number_lists.Given as goal

abbrev pub invariant-loop-k : goal.invariant-loop-k
invariant-loop-k l = record {
  longer : length l.initial.b.gates ≤ length l.b.gates;
  same : AllOf (kind.Int ∷ []) l.lists.items;
  there : AllThere l.b l.lists.items;
  count : length l.lists.items ≡ l.k;
  rows : length_of l.lists.items ≡ sum (take l.k l.lens);
}
