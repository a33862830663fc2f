use Rattle.std.proofs.Common.{◌≡◌, ◌<◌, ◌-◌, ◌^◌, ◌++◌, drop, length}
use Rattle.std.specs.List.{All}
use Rattle.pdn_base.specs.Operators.{Rows}
use Rattle.pdn_commands.specs.Twinning.{given_tables}
use Rattle.pdn_commands.proofs.worlds.given_tables.Given as goal

abbrev pub invariant-loop-at : goal.invariant-loop-at
invariant-loop-at l = record {
  are : given_tables l.given l.kept ≡ l.lists.items ++ given_tables (drop l.at l.given) (drop l.at l.kept);
  count : length l.lists.items ≡ l.at;
  short : All (λ (rows : Rows). length rows < 2 ^ 32 - 1) l.lists.items;
}
