use Rattle.std.proofs.Common.{◌≡◌, Option, length}
use Rattle.std.specs.Prelude.{IfSome}
use Rattle.std.specs.List.{All, zip}
use Rattle.pdn_base.specs.Bounds.{IsShort}
use Rattle.pdn_base.specs.Operators.{Rows}
use Rattle.pdn_query.proofs.Steps.{Stepped}
use Rattle.pdn_query.specs.World.{WorldModel}
use Rattle.pdn_commands.specs.Twinning.{importing_file}
use Rattle.pdn_commands.proofs.folder.rows_given.Given as goal

abbrev pub invariant-loop-at : goal.invariant-loop-at
invariant-loop-at l = record {
  stepped : (w : WorldModel) → Stepped w w importing_file (zip l.schema.tables l.texts) l.at l.given.items;
  count : length l.given.items ≡ l.at;
  short : All (λ (rows : Option Rows). IfSome rows IsShort) l.given.items;
}
