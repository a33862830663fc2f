-- The columns of one table in which the values of two lists of rows differ.
use Rattle.std.specs.Prelude.{◌≡◌, ◌<◌, ℕ, Bool, true, List, map}
use Rattle.std.specs.List.{list_all}
use Rattle.pdn_base.specs.declared.value.Value.{Value}
use Rattle.pdn_base.specs.Values.{cell}
use Rattle.pdn_base.specs.Operators.{Rows}
use Rattle.pdn_schema.specs.declared.schema.Column.{Column}
use Rattle.pdn_tree.specs.Shapes.{is_public}
use Rattle.pdn_level.specs.Links.{slice_at}
use Rattle.pdn_site.specs.Directories.{stands_in}
use Rattle.pdn_agree.specs.Agreement.{SameValues}

abbrev pub column_values : Rows → ℕ → List Value
column_values rows column = map (λ row. cell row column) rows

-- each of these values stands among the others
abbrev pub all_stand : List Value → List Value → Bool
all_stand xs ys = list_all (stands_in ys) xs

-- column i is there, and public
abbrev pub IsPublicAt : List Column → ℕ → Type 0
IsPublicAt columns i = slice_at (map (λ c. is_public c.mark) columns) i ≡ true

-- column i, where it is public, has the same set of values in both
abbrev pub SameIfPublic : List Column → Rows → Rows → ℕ → Type 0
SameIfPublic columns first second i = IsPublicAt columns i → SameValues (column_values first i) (column_values second i)

pub record IsFirstColumn (columns : List Column) (first second : Rows) (at : ℕ) : Type 0 where
  pub is_public_at : IsPublicAt columns at
  pub differs : SameValues (column_values first at) (column_values second at) → ⊥
  pub before : (i : ℕ) → i < at → SameIfPublic columns first second i
