-- Padded lists, and the rows that they hold under the words of a circuit's gates.
use Rattle.std.specs.Prelude.{◌≡◌, ℕ, ◌+◌, ◌/◌, ◌%◌, ◌<◌, nat_eq, Bool, List, [], ◌∷◌, length, map, filter, take, drop, slice_index, slice_index_or}
use Rattle.std.specs.List.{range_with_len, sum_by}
use Rattle.pdn_base.specs.declared.marks.Kind.{Kind}
use Rattle.pdn_base.specs.declared.marks.Kind.TheVariants as kind
use Rattle.pdn_base.specs.declared.value.Value.{Value}
use Rattle.pdn_base.specs.declared.value.Value.TheVariants as value
use Rattle.pdn_circuit.specs.Plain.{lane_of, number_in}

-- ---- the shape of a list
-- a list of `len` rows: the gates of its valid plane, its columns' kinds, and the gates of each plane, column by column
pub record PaddedList : Type 0 where
  pub len : ℕ
  pub valid : List ℕ
  pub kinds : List Kind
  pub planes : List (List ℕ)

-- the bits of a kind's numbers
abbrev pub width_of : Kind → ℕ
width_of kind.Int = 32
width_of kind.Code = 64

abbrev pub widths : List Kind → ℕ
widths kinds = sum_by width_of kinds

-- the words that hold a lane for each row
unfoldable pub words_for : ℕ → ℕ
words_for len = (len + 63) / 64

abbrev pub plane_at : List (List ℕ) → ℕ → List ℕ
plane_at planes p = slice_index_or planes p []

pub record IsShaped (list : PaddedList) : Type 0 where
  pub valid : length list.valid ≡ words_for list.len
  pub planes : length list.planes ≡ widths list.kinds
  pub words : (p : ℕ) → p < length list.planes → length (plane_at list.planes p) ≡ words_for list.len

-- ---- columns
abbrev pub kind_at : List Kind → ℕ → Kind
kind_at kinds column = slice_index_or kinds column kind.Int

-- the planes before a column's
abbrev pub planes_before : List Kind → ℕ → ℕ
planes_before kinds column = widths (take column kinds)

abbrev pub column_planes : List Kind → ℕ → List (List ℕ) → List (List ℕ)
column_planes kinds column planes = take (width_of (kind_at kinds column)) (drop (planes_before kinds column) planes)

-- word j of each of these planes
abbrev pub word_planes : ℕ → List (List ℕ) → List ℕ
word_planes j planes = map (λ plane. slice_index plane j) planes

-- ---- rows
-- a row's lane of a plane
abbrev pub lane_in : List ℕ → List ℕ → ℕ → ℕ
lane_in words plane row = lane_of words (row % 64) (slice_index plane (row / 64))

-- the number that a row holds in these planes
abbrev pub number_at : List ℕ → List (List ℕ) → ℕ → ℕ
number_at words planes row = number_in words (row % 64) (word_planes (row / 64) planes)

abbrev pub value_of : Kind → ℕ → Value
value_of kind.Int n = value.Int n
value_of kind.Code n = value.Code n

-- a row's values, column by column
abbrev pub cells_at : List ℕ → ℕ → List Kind → List (List ℕ) → List Value
cells_at words row [] planes = []
cells_at words row (k ∷ ks) planes =
    value_of k (number_at words (take (width_of k) planes) row) ∷ cells_at words row ks (drop (width_of k) planes)

abbrev pub row_at : List ℕ → PaddedList → ℕ → List Value
row_at words list row = cells_at words row list.kinds list.planes

abbrev pub is_valid : List ℕ → PaddedList → ℕ → Bool
is_valid words list row = nat_eq (lane_in words list.valid row) 1

-- the valid rows of a list under these words, in their order
abbrev pub valid_rows : List ℕ → PaddedList → List (List Value)
valid_rows words list = map (row_at words list) (filter (is_valid words list) (range_with_len 0 list.len))
