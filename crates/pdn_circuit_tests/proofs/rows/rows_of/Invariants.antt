use Rattle.std.proofs.Common.{◌≡◌, ◌∷◌, [], length}
use Rattle.pdn_base.specs.declared.marks.Kind.TheVariants as kind
use Rattle.pdn_obl_rows.specs.Encoding.{RowsAreOf}
use Rattle.pdn_circuit_tests.proofs.rows.rows_of.Given as goal

abbrev pub invariant-loop-k : goal.invariant-loop-k
invariant-loop-k l = record {
  kinds : RowsAreOf (kind.Int ∷ []) l.rows.items;
  count : length l.rows.items ≡ l.k;
}
