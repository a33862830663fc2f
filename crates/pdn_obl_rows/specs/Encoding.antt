-- How rows are written as words, and which list reads them back.
use Rattle.std.specs.Prelude.{◌≡◌, ℕ, zero, suc, ◌+◌, ◌*◌, ◌^◌, ◌<◌, nat_lt, List, [], ◌∷◌, ◌++◌, length, map, slice_index_or}
use Rattle.std.specs.List.{range_with_len, flat_map}
use Rattle.std.specs.Int.{bit_at}
use Rattle.pdn_base.specs.declared.marks.Kind.{Kind}
use Rattle.pdn_base.specs.declared.marks.Kind.TheVariants as kind
use Rattle.pdn_base.specs.declared.value.Value.{Value}
use Rattle.pdn_base.specs.declared.value.Value.TheVariants as value
use Rattle.pdn_base.specs.Codes.{IsCodeNumber}
use Rattle.pdn_base.specs.Values.{number_of, cell}
use Rattle.pdn_circuit.specs.Plain.{truth}
use Rattle.pdn_obl_rows.specs.declared.encoding.Lanes.{Lanes}
use Rattle.pdn_obl_rows.specs.declared.encoding.Lanes.TheVariants as lanes
use Rattle.pdn_obl_rows.specs.Lists.{PaddedList, width_of, widths, words_for}

-- ---- values of kinds
abbrev pub IsOf : Kind → Value → Type 0
IsOf kind.Int (value.Int n) = n < 2 ^ 32
IsOf kind.Int (value.Code c) = ⊥
IsOf kind.Code (value.Int n) = ⊥
IsOf kind.Code (value.Code c) = (c < 2 ^ 64) × IsCodeNumber c

-- a row has one value of each kind
abbrev pub RowIsOf : List Kind → List Value → Type 0
RowIsOf [] [] = Unit {0}
RowIsOf [] (v ∷ vs) = ⊥
RowIsOf (k ∷ ks) [] = ⊥
RowIsOf (k ∷ ks) (v ∷ vs) = IsOf k v × RowIsOf ks vs

pub record RowsAreOf (kinds : List Kind) (rows : List (List Value)) : Type 0 where
  pub at : (i : ℕ) → i < length rows → RowIsOf kinds (slice_index_or rows i [])

-- ---- words
-- the number whose bits are what f gives from a place on, so many of them
unfoldable pub word_of : (ℕ → ℕ) → ℕ → ℕ → ℕ
word_of f from zero = 0
word_of f from (suc count) = f from + 2 * word_of f (from + 1) count

-- the words of a plane in which row i has the lane f i
abbrev pub plane_words : (ℕ → ℕ) → ℕ → List ℕ
plane_words f len = map (λ j. word_of f (64 * j) 64) (range_with_len 0 (words_for len))

abbrev pub valid_lane : List (List Value) → ℕ → ℕ
valid_lane rows row = truth (nat_lt row (length rows))

-- a bit of a column's number; 0 past the rows
abbrev pub bit_lane : List (List Value) → ℕ → ℕ → ℕ → ℕ
bit_lane rows column bit row = bit_at (number_of (cell (slice_index_or rows row []) column)) bit

-- the words of one column
abbrev pub column_words : List (List Value) → ℕ → ℕ → ℕ → List ℕ
column_words rows len column width = flat_map (λ bit. plane_words (bit_lane rows column bit) len) (range_with_len 0 width)

abbrev pub columns_words : List (List Value) → ℕ → ℕ → List Kind → List ℕ
columns_words rows len column [] = []
columns_words rows len column (k ∷ ks) = column_words rows len column (width_of k) ++ columns_words rows len (column + 1) ks

-- the valid plane, then each column's planes, least significant first
abbrev pub encoded : List (List Value) → List Kind → ℕ → List ℕ
encoded rows kinds len = plane_words (valid_lane rows) len ++ columns_words rows len 0 kinds

-- ---- a plane to be written
-- the lanes of a plane: whether there is such a row, or a bit of a column
abbrev pub lanes_of : List (List Value) → Lanes → ℕ → ℕ
lanes_of rows lanes.Valid = valid_lane rows
lanes_of rows (lanes.Bit column bit) = bit_lane rows column bit

abbrev pub LanesFit : Lanes → Type 0
LanesFit lanes.Valid = Unit {0}
LanesFit (lanes.Bit column bit) = bit < 64

-- ---- gates in the same order
abbrev pub planes_from : ℕ → ℕ → ℕ → List (List ℕ)
planes_from first words zero = []
planes_from first words (suc count) = range_with_len first words ∷ planes_from (first + words) words count

-- the list whose words are the gates from this one on: the valid plane, then the columns' planes
abbrev pub list_from : ℕ → List Kind → ℕ → PaddedList
list_from first kinds len = record {
  len = len;
  valid = range_with_len first (words_for len);
  kinds = kinds;
  planes = planes_from (first + words_for len) (words_for len) (widths kinds);
}

-- these words stand from a place on
pub record Stand (words : List ℕ) (first : ℕ) (part : List ℕ) : Type 0 where
  pub at : (k : ℕ) → k < length part → slice_index_or words (first + k) 0 ≡ slice_index_or part k 0
