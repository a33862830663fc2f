use Rattle.std.proofs.Common.{◌≡◌, drop}
use Rattle.csv.specs.Records.{fields_of}
use Rattle.pdn_keeper.specs.Import.{row_in}
use Rattle.pdn_keeper.proofs.ImportLaws.{with_front}
use Rattle.pdn_keeper.proofs.import.values_of.Given as goal

abbrev pub invariant-loop-i : goal.invariant-loop-i
invariant-loop-i l = row_in l.columns (fields_of l.entry) ≡ with_front l.values.items (row_in (drop l.i l.columns) (drop l.i (fields_of l.entry)))
