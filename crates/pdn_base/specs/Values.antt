-- Values and their order; rows and their order.
use Rattle.std.specs.Prelude.{ℕ, Bool, true, false, List, [], ◌∷◌, get_or, map}
use Rattle.std.proofs.Common.{Ordering, Equal}
use Rattle.std.specs.Ordering.{nat_cmp, on, then_cmp, flip_args, eq_by_cmp}
use Rattle.std.specs.Cmp.Lexicographic.{slice_cmp}
use Rattle.pdn_base.specs.declared.value.Value.{Value}
use Rattle.pdn_base.specs.declared.value.Value.TheVariants as value
use Rattle.pdn_base.specs.declared.order.Key.{Key}

-- A value is its kind and its number. The kinds stand in the order of these numbers.
abbrev pub kind_of : Value → ℕ
kind_of (value.Int n) = 1
kind_of (value.Code c) = 2

abbrev pub number_of : Value → ℕ
number_of (value.Int n) = n
number_of (value.Code c) = c

-- by what a value is ordered: its kind, and within a kind its number
abbrev pub rank_of : Value → ℕ × ℕ
rank_of v = (kind_of v, number_of v)

-- the one order of values
abbrev pub value_cmp : Value → Value → Ordering
value_cmp = then_cmp (on kind_of nat_cmp) (on number_of nat_cmp)

-- rows from left to right
abbrev pub cells_cmp : List Value → List Value → Ordering
cells_cmp = slice_cmp value_cmp

abbrev pub same_row : List Value → List Value → Bool
same_row = eq_by_cmp cells_cmp

-- the value of a column; of no column, 0
abbrev pub cell : List Value → ℕ → Value
cell row column = get_or row column (value.Int 0)

-- a row cut to these columns, in this order
abbrev pub cut : List ℕ → List Value → List Value
cut columns row = map (cell row) columns

abbrev pub directed : Bool → (Value → Value → Ordering) → Value → Value → Ordering
directed true order = flip_args order
directed false order = order

abbrev pub key_cmp : Key → List Value → List Value → Ordering
key_cmp key = on (λ row. cell row key.column) (directed key.down value_cmp)

-- by the keys, first to last
abbrev pub keys_cmp : List Key → List Value → List Value → Ordering
keys_cmp [] = λ x y. Equal
keys_cmp (k ∷ ks) = then_cmp (key_cmp k) (keys_cmp ks)

-- by the keys, and then by the columns from left to right. Where the keys tie, their columns tie again.
abbrev pub row_cmp : List Key → List Value → List Value → Ordering
row_cmp keys = then_cmp (keys_cmp keys) cells_cmp
