-- What number and top mean: the valid rows of the result, from those of the list, over any words that satisfy the gates.
use Rattle.std.specs.Prelude.{◌≡◌, ℕ, ◌/◌, ◌^◌, ◌<◌, true, false, List, [], ◌∷◌, ◌++◌, length, Option, Some, None}
use Rattle.pdn_base.specs.declared.order.Key.{Key}
use Rattle.pdn_base.specs.Operators.{SameRows, number_rows, top_rows}
use Rattle.pdn_base.specs.declared.marks.Kind.TheVariants as kind
use Rattle.pdn_circuit.specs.Gates.{InputWords}
use Rattle.pdn_obl_rows.specs.Encoding.{RowsAreOf}
use Rattle.pdn_circuit.specs.Plain.{Yields, Ends}
use Rattle.pdn_obl_rows.specs.Lists.{PaddedList, IsShaped, words_for, plane_at, lane_in, row_at, is_valid, valid_rows}
use Rattle.pdn_obl_rank.specs.Keys.{KeysFit}
use Rattle.pdn_obl_rank.specs.Numbers.{number_gates}
use Rattle.pdn_obl_rank.specs.Tops.{top_gates}

-- each row with its place in its partition, in the order of the list
abbrev pub NumberMeans : Type 0
NumberMeans = (inputs : InputWords) (words : List ℕ) → Ends words → (list : PaddedList) → IsShaped list → list.len < 2 ^ 32 → (partition : List ℕ) (order : List Key) → KeysFit (length list.kinds) partition order → (out : PaddedList) →
    Yields inputs words (number_gates list partition order) out → valid_rows words out ≡ number_rows partition order (valid_rows words list)

-- the numbered rows hold values of their kinds, where the list's rows do
abbrev pub NumberHolds : Type 0
NumberHolds = (inputs : InputWords) (words : List ℕ) → Ends words → (list : PaddedList) → IsShaped list → list.len < 2 ^ 32 → (partition : List ℕ) (order : List Key) → KeysFit (length list.kinds) partition order → (out : PaddedList) →
    Yields inputs words (number_gates list partition order) out → RowsAreOf list.kinds (valid_rows words list) → RowsAreOf (list.kinds ++ kind.Int ∷ []) (valid_rows words out)

-- a limit is a number of 32 bits
abbrev pub LimitFits : Option ℕ → Type 0
LimitFits None = Unit {0}
LimitFits (Some limit) = limit < 2 ^ 32

-- the rows that a limit keeps, where they stood, and no lane where no row is valid
pub record IsTop (words : List ℕ) (list : PaddedList) (order : List Key) (limit : Option ℕ) (out : PaddedList) : Type 0 where
  pub rows : SameRows (valid_rows words out) (top_rows order limit (valid_rows words list))
  pub len : out.len ≡ list.len
  pub kinds : out.kinds ≡ list.kinds
  pub stay : (row : ℕ) → row < list.len → is_valid words out row ≡ true → row_at words out row ≡ row_at words list row
  pub clear : (plane row : ℕ) → plane < length out.planes → row / 64 < words_for list.len → is_valid words out row ≡ false → lane_in words (plane_at out.planes plane) row ≡ 0

abbrev pub TopMeans : Type 0
TopMeans = (inputs : InputWords) (words : List ℕ) → Ends words → (list : PaddedList) → IsShaped list → list.len < 2 ^ 32 → (order : List Key) → KeysFit (length list.kinds) [] order → (limit : Option ℕ) → LimitFits limit → (out : PaddedList) →
    Yields inputs words (top_gates list order limit) out → IsTop words list order limit out

-- and so do the rows that a limit keeps
abbrev pub TopHolds : Type 0
TopHolds = (words : List ℕ) (list : PaddedList) (order : List Key) (limit : Option ℕ) (out : PaddedList) → IsTop words list order limit out → RowsAreOf list.kinds (valid_rows words list) → RowsAreOf out.kinds (valid_rows words out)
