use Rattle.std.proofs.Common.{◌≡◌, ◌≤◌, take}
use Rattle.pdn_schema.specs.Rows.{standing}
use Rattle.pdn_schema.proofs.valid.count_of.Given as goal

abbrev pub invariant-loop-row : goal.invariant-loop-row
invariant-loop-row l = record {
  within : l.count ≤ l.row-index;
  is : l.count ≡ standing l.column l.number (take l.row-index l.rows);
}
