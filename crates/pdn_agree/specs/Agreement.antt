-- Two unions that a site can't tell apart by what it may see.
use Rattle.std.specs.Prelude.{◌≡◌, List}
use Rattle.pdn_base.specs.declared.site.Site.{Site}
use Rattle.pdn_base.specs.declared.site.Site.TheVariants.{A, B}
use Rattle.pdn_base.specs.declared.value.Value.{Value}
use Rattle.pdn_base.specs.Operators.{Rows}
use Rattle.pdn_schema.specs.Models.{SchemaModel}
use Rattle.pdn_schema.specs.Rows.{AreValid}
use Rattle.pdn_level.specs.declared.staged.Leaf.{Leaf}
use Rattle.pdn_level.specs.Cutting.{IsPublicLeaf}
use Rattle.pdn_site.specs.Directories.{traced_by, stands_in}

-- both sites' tables
pub record Union : Type 0 where
  pub a : List Rows
  pub b : List Rows

abbrev pub own_tables : Site → Union → List Rows
own_tables A u = u.a
own_tables B u = u.b

abbrev pub other_tables : Site → Union → List Rows
other_tables A u = u.b
other_tables B u = u.a

pub record IsValidUnion (s : SchemaModel) (u : Union) : Type 0 where
  pub a : AreValid s u.a
  pub b : AreValid s u.b

-- lists with the same set of values
abbrev pub SameValues : List Value → List Value → Type 0
SameValues xs ys = (v : Value) → stands_in xs v ≡ stands_in ys v

-- each public column of each table has the same set of values in both
abbrev pub SamePublic : SchemaModel → List Rows → List Rows → Type 0
SamePublic s first second = (column : Leaf) → IsPublicLeaf s column → SameValues (traced_by first column) (traced_by second column)

-- A site may see the schema, its own tables, and of each public column of the other site the set of its values. Two unions of
-- valid tables agree for it where all this is equal.
pub record Agree (site : Site) (s : SchemaModel) (first second : Union) : Type 0 where
  pub valid_first : IsValidUnion s first
  pub valid_second : IsValidUnion s second
  pub own : own_tables site second ≡ own_tables site first
  pub other : SamePublic s (other_tables site first) (other_tables site second)
