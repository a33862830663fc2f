-- The columns that an order compares, and the planes of its sort key.
use Rattle.std.specs.Prelude.{ℕ, ◌+◌, ◌<◌, Bool, true, false, not, nat_eq, cond, List, [], ◌∷◌, ◌++◌, length, map, filter, slice_index_or}
use Rattle.std.specs.List.{range_with_len, list_any, AllByRecursion}
use Rattle.pdn_base.specs.declared.order.Key.{Key}
use Rattle.pdn_base.specs.Bags.{distinct}
use Rattle.pdn_circuit.specs.Blocks.{Making, gives, ◌>>=◌, each}
use Rattle.pdn_circuit.specs.Compare.{not_gates}
use Rattle.pdn_obl_rows.specs.Lists.{PaddedList, column_planes, word_planes}
use Rattle.pdn_obl_group.specs.Loops.{spread_gates}

-- ---- the sort key: the order columns, and then the remaining columns from left to right
abbrev pub ascending : ℕ → Key
ascending column = record { column = column; down = false }

abbrev pub is_named : List Key → ℕ → Bool
is_named order column = list_any (λ (key : Key). nat_eq key.column column) order

abbrev pub sort_key : List Key → ℕ → List Key
sort_key order columns = order ++ map ascending (filter (λ column. not (is_named order column)) (range_with_len 0 columns))

-- a partition and an order of columns that are there
pub record KeysFit (columns : ℕ) (partition : List ℕ) (order : List Key) : Type 0 where
  pub parts : AllByRecursion (λ column. column < columns) partition
  pub keys : AllByRecursion (λ (key : Key). key.column < columns) order

-- ---- the columns that are compared: those of the list, and after them its descending ones with each plane inverted
-- the descending columns of an order, each once
abbrev pub down_columns : List Key → List ℕ
down_columns order = distinct nat_eq (map (λ (key : Key). key.column) (filter (λ (key : Key). key.down) order))

abbrev pub own_columns : PaddedList → List (List (List ℕ))
own_columns list = map (λ column. column_planes list.kinds column list.planes) (range_with_len 0 (length list.kinds))

-- a column's planes, inverted plane by plane and word by word
abbrev pub inverted_gates : PaddedList → ℕ → Making (List (List ℕ))
inverted_gates list column = each (λ plane. each not_gates plane) (column_planes list.kinds column list.planes)

abbrev pub compared_gates : PaddedList → List Key → Making (List (List (List ℕ)))
compared_gates list order = do
  inverted ← each (inverted_gates list) (down_columns order)
  gives (own_columns list ++ inverted)

-- where a number stands first in a list that has it
abbrev pub place_among : ℕ → List ℕ → ℕ
place_among c [] = 0
place_among c (d ∷ ds) = cond (nat_eq c d) 0 (1 + place_among c ds)

-- the place of a key's column among those that are compared
abbrev pub place_of_key : ℕ → List Key → Key → ℕ
place_of_key columns order key = cond key.down (columns + place_among key.column (down_columns order)) key.column

-- ---- planes of several columns, as one number
-- whose first column is least significant
abbrev pub planes_up : List (List ℕ) → List ℕ
planes_up [] = []
planes_up (c ∷ cs) = c ++ planes_up cs

-- whose last column is least significant
abbrev pub planes_down : List (List ℕ) → List ℕ
planes_down [] = []
planes_down (c ∷ cs) = planes_down cs ++ c

-- word w of these columns
abbrev pub word_columns : List (List (List ℕ)) → ℕ → List ℕ → List (List ℕ)
word_columns columns w places = map (λ place. word_planes w (slice_index_or columns place [])) places

-- one row's lanes of these columns
abbrev pub row_columns : List (List ℕ) → List ℕ → List (List ℕ)
row_columns row places = map (λ place. slice_index_or row place []) places

-- ---- one row's lanes, each in every lane of a word: of the columns that are used
abbrev pub spread_column : Bool → List (List ℕ) → ℕ → Making (List ℕ)
spread_column true planes row = each (spread_gates row) planes
spread_column false planes row = gives []

abbrev pub spread_used : List (List (List ℕ)) → List ℕ → ℕ → Making (List (List ℕ))
spread_used columns used row = each (λ place. spread_column (list_any (nat_eq place) used) (slice_index_or columns place []) row) (range_with_len 0 (length columns))

-- one element, or none
abbrev pub one_if : Bool → ℕ → List ℕ
one_if true x = x ∷ []
one_if false x = []
