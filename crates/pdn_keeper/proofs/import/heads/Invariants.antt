use Rattle.std.proofs.Common.{◌≡◌, drop}
use Rattle.csv.specs.Records.{fields_of}
use Rattle.pdn_keeper.specs.Import.{is_header}
use Rattle.pdn_keeper.proofs.import.heads.Given as goal

abbrev pub invariant-loop-i : goal.invariant-loop-i
invariant-loop-i l = is_header l.columns (fields_of l.entry) ≡ is_header (drop l.i l.columns) (drop l.i (fields_of l.entry))
