-- A query over a site's own tables and the other site's.
use Rattle.std.specs.Prelude.{◌≡◌, ◌<◌, ◌-◌, ◌^◌, List, length}
use Rattle.std.specs.List.{All}
use Rattle.pdn_base.specs.declared.site.Site.{Site}
use Rattle.pdn_base.specs.declared.site.Site.TheVariants.{A, B}
use Rattle.pdn_base.specs.Operators.{Rows}
use Rattle.pdn_schema.specs.Models.{SchemaModel}
use Rattle.pdn_tree.specs.declared.node.Node.{Node}
use Rattle.pdn_agree.specs.Agreement.{Union}
use Rattle.pdn_broker.specs.Prepared.{PreparedModel, IsPrepared, IsOf}

-- the union in which the site has the own tables
abbrev pub union_of : Site → List Rows → List Rows → Union
union_of A own other = record { a = own; b = other }
union_of B own other = record { a = other; b = own }

-- the rows of two tables, not too many in each
pub record AreTwo (tables : List Rows) : Type 0 where
  pub count : length tables ≡ 2
  pub few : All (λ (rows : Rows). length rows < 2 ^ 32 - 1) tables

-- made ready over these
pub record IsReady (site : Site) (schema : SchemaModel) (root : Node) (own other : List Rows) (p : PreparedModel) : Type 0 where
  pub made : IsOf schema root (union_of site own other).a (union_of site own other).b p
  pub kept : IsPrepared p
