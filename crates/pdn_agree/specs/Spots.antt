-- The first public column of a schema in which the values of two lists of tables differ.
use Rattle.std.specs.Prelude.{◌≡◌, ◌<◌, ◌⊎◌, List, Option, Some, None}
use Rattle.pdn_base.specs.Operators.{Rows}
use Rattle.pdn_schema.specs.Models.{SchemaModel}
use Rattle.pdn_level.specs.declared.staged.Leaf.{Leaf}
use Rattle.pdn_level.specs.Cutting.{IsPublicLeaf}
use Rattle.pdn_site.specs.Directories.{traced_by}
use Rattle.pdn_agree.specs.declared.spot.Spot.{Spot}
use Rattle.pdn_agree.specs.Agreement.{SameValues, SamePublic}

-- in schema order: by table, and in a table by column
abbrev pub IsBefore : Leaf → Leaf → Type 0
IsBefore x y = (x.table < y.table) ⊎ ((x.table ≡ y.table) × (x.column < y.column))

pub record IsFirstSpot (s : SchemaModel) (first second : List Rows) (spot : Leaf) : Type 0 where
  pub is_public : IsPublicLeaf s spot
  pub differs : SameValues (traced_by first spot) (traced_by second spot) → ⊥
  pub before : (column : Leaf) → IsPublicLeaf s column → IsBefore column spot → SameValues (traced_by first column) (traced_by second column)

abbrev pub IsSpot : SchemaModel → List Rows → List Rows → Option Leaf → Type 0
IsSpot s first second None = SamePublic s first second
IsSpot s first second (Some spot) = IsFirstSpot s first second spot

-- a place as the leaf that is traced to it
abbrev pub as_leaf : Spot → Leaf
as_leaf spot = record { table = spot.table; column = spot.column }
