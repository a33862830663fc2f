-- What a twin's parts hand on: tables, and a query that is ready in both worlds.
use Rattle.std.specs.Prelude.{◌≡◌, ◌<◌, ◌-◌, ◌^◌, List, length}
use Rattle.std.specs.List.{All}
use Rattle.pdn_base.specs.Operators.{Rows}
use Rattle.pdn_schema.specs.Models.{SchemaModel}
use Rattle.pdn_tree.specs.declared.node.Node.{Node}
use Rattle.pdn_worlds.specs.TwoWorlds.{AreWorlds}
use Rattle.pdn_twin.specs.declared.twins.Worlds.{Worlds}
use Rattle.pdn_commands.specs.Twinning.{TwoWorlds, first_ready, second_ready}

-- one list of rows for each table of a schema, and fewer than 2 ^ 32 - 1 in each
pub record AreTablesOf (s : SchemaModel) (tables : List Rows) : Type 0 where
  pub count : length tables ≡ length s.tables
  pub short : All (λ (rows : Rows). length rows < 2 ^ 32 - 1) tables

-- a query made ready in both of these worlds, over the same units
pub record AreReadyWorlds (w : TwoWorlds) (root : Node) (both : Worlds) : Type 0 where
  pub site : both.site ≡ w.site
  pub first : both.first ≡ first_ready w root both.first.units
  pub second : both.second ≡ second_ready w root both.first.units
  pub alike : AreWorlds both.site both.first both.second
