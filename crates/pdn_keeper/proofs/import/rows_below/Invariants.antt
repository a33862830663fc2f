use Rattle.std.proofs.Common.{◌≡◌, ◌+◌, drop, map, length}
use Rattle.csv.specs.Records.{fields_of}
use Rattle.pdn_keeper.specs.Import.{rows_after}
use Rattle.pdn_keeper.proofs.ImportLaws.{with_rows}
use Rattle.pdn_keeper.proofs.import.rows_below.Given as goal

abbrev pub invariant-loop-i : goal.invariant-loop-i
invariant-loop-i l = record {
  count : length l.rows.items ≡ l.i;
  rows : rows_after l.columns 1 (map fields_of l.records) ≡ with_rows l.rows.items (rows_after l.columns (l.i + 1) (drop l.i (map fields_of l.records)));
}
