-- The values by which a segment is sliced at each site, and which units they make.
use Rattle.std.specs.Prelude.{Bool, cond, List, [], ◌∷◌, ◌++◌, map, get_or}
use Rattle.std.specs.List.{flat_map, list_any}
use Rattle.std.proofs.Common.{Ordering, Less, Equal, Greater}
use Rattle.pdn_base.specs.declared.value.Value.{Value}
use Rattle.pdn_base.specs.declared.site.Site.TheVariants.{A, B}
use Rattle.pdn_base.specs.Values.{value_cmp, cell}
use Rattle.pdn_base.specs.Operators.{Rows}
use Rattle.pdn_level.specs.declared.staged.Leaf.{Leaf}
use Rattle.pdn_level.specs.Cutting.{same_value}
use Rattle.pdn_site.specs.declared.unit.UnitKind.{UnitKind}
use Rattle.pdn_site.specs.declared.unit.UnitKind.TheVariants.{Plain, Secure}
use Rattle.pdn_site.specs.Models.{Dirs}

-- ---- values in ascending order, each once

abbrev pub placed_by : Ordering → Value → Value → List Value → List Value → List Value
placed_by Less v w ws rest = v ∷ w ∷ ws
placed_by Equal v w ws rest = w ∷ ws
placed_by Greater v w ws rest = w ∷ rest

-- a value at its place among ascending ones, where it isn't there yet
abbrev pub placed : Value → List Value → List Value
placed v [] = v ∷ []
placed v (w ∷ ws) = placed_by (value_cmp v w) v w ws (placed v ws)

-- the values that occur, in ascending order, each once
abbrev pub ascending : List Value → List Value
ascending [] = []
ascending (v ∷ vs) = placed v (ascending vs)

-- ---- directories

-- the values of a traced column, row by row
abbrev pub traced_by : List Rows → Leaf → List Value
traced_by tables leaf = map (λ row. cell row leaf.column) (get_or tables leaf.table [])

-- the values of traced columns in a site's tables
abbrev pub traced : List Rows → List Leaf → List Value
traced tables leaves = flat_map (traced_by tables) leaves

-- a site's directory of a segment with these leaves, from the site's unfiltered tables
abbrev pub directory : List Rows → List Leaf → List Value
directory tables leaves = ascending (traced tables leaves)

abbrev pub stands_in : List Value → Value → Bool
stands_in values v = list_any (same_value v) values

-- ---- the units of a segment

-- the values of a segment's units
abbrev pub unit_values : Dirs → List Value
unit_values dirs = ascending (dirs.a ++ dirs.b)

-- a value that stands in both directories is a secure unit's, any other a plain unit's of the site that has it
abbrev pub kind_of : Dirs → Value → UnitKind
kind_of dirs v = cond (stands_in dirs.a v) (cond (stands_in dirs.b v) Secure (Plain A)) (Plain B)
