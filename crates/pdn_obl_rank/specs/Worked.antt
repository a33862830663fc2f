-- Circuits worked out by hand: the And gates over three rows of one number, and runs over rows whose words are constants.
use Rattle.std.specs.Prelude.{◌≡◌, ℕ, ◌+◌, true, false, List, [], ◌∷◌, ◌++◌, length, map, drop, Some, None}
use Rattle.std.specs.List.{range_with_len}
use Rattle.pdn_base.specs.declared.marks.Kind.TheVariants as kind
use Rattle.pdn_base.specs.declared.order.Key.{Key}
use Rattle.pdn_base.specs.declared.value.Value.{Value}
use Rattle.pdn_base.specs.declared.value.Value.TheVariants as value
use Rattle.pdn_circuit.specs.declared.gate.Gate.TheVariants.{Const}
use Rattle.pdn_circuit.specs.Blocks.{Making}
use Rattle.pdn_circuit.specs.Building.{and_count, constants}
use Rattle.pdn_circuit.specs.Gates.{InputWords, values}
use Rattle.pdn_obl_rows.specs.Lists.{PaddedList, is_valid, valid_rows}
use Rattle.pdn_obl_rows.specs.Encoding.{encoded, list_from}
use Rattle.pdn_obl_rank.specs.Numbers.{number_gates}
use Rattle.pdn_obl_rank.specs.Tops.{top_gates}

abbrev pub up : ℕ → Key
up column = record { column = column; down = false }

abbrev pub down : ℕ → Key
down column = record { column = column; down = true }

-- ---- And gates
abbrev pub three_rows : PaddedList
three_rows = list_from 2 (kind.Int ∷ []) 3

abbrev pub and_gates_of : Making PaddedList → ℕ
and_gates_of making = and_count (making 35).gates

pub record WorkedCounts : Type 0 where
  pub number : and_gates_of (number_gates three_rows [] (up 0 ∷ [])) ≡ 105
  pub top : and_gates_of (top_gates three_rows [] None) ≡ 32
  pub top_limit : and_gates_of (top_gates three_rows [] (Some 2)) ≡ 170

-- ---- runs
abbrev pub no_words : InputWords
no_words = record { a = []; b = []; given = [] }

-- the words of all gates, where the first after the constants are these
abbrev pub run : List ℕ → Making PaddedList → List ℕ
run words making = values no_words (constants ++ (map Const words ++ (making (2 + length words)).gates))

abbrev pub out_of : List ℕ → Making PaddedList → PaddedList
out_of words making = (making (2 + length words)).result

abbrev pub rows_shown : List ℕ → Making PaddedList → List (List Value)
rows_shown words making = valid_rows (run words making) (out_of words making)

abbrev pub one_number : ℕ → List Value
one_number m = value.Int m ∷ []

abbrev pub two_numbers : ℕ → ℕ → List Value
two_numbers m n = value.Int m ∷ value.Int n ∷ []

abbrev pub three_numbers : ℕ → ℕ → ℕ → List Value
three_numbers m n k = value.Int m ∷ value.Int n ∷ value.Int k ∷ []

-- 9, 4 and 9
abbrev pub nine_four_nine : List ℕ
nine_four_nine = encoded (one_number 9 ∷ one_number 4 ∷ one_number 9 ∷ []) (kind.Int ∷ []) 3

-- the same words, but the row of 4 is not valid
abbrev pub nine_nine : List ℕ
nine_nine = 5 ∷ drop 1 nine_four_nine

abbrev pub pairs_of : List ℕ
pairs_of = encoded (two_numbers 1 5 ∷ two_numbers 2 7 ∷ two_numbers 1 5 ∷ two_numbers 1 9 ∷ []) (kind.Int ∷ kind.Int ∷ []) 4

abbrev pub four_pairs : PaddedList
four_pairs = list_from 2 (kind.Int ∷ kind.Int ∷ []) 4

pub record WorkedRuns : Type 0 where
  -- the limit keeps 4 and the earlier 9, where they stood
  pub top : rows_shown nine_four_nine (top_gates three_rows [] (Some 2)) ≡ one_number 9 ∷ one_number 4 ∷ []
  pub top_places : map (is_valid (run nine_four_nine (top_gates three_rows [] (Some 2))) (out_of nine_four_nine (top_gates three_rows [] (Some 2)))) (range_with_len 0 3) ≡ true ∷ true ∷ false ∷ []
  -- descending, the two of 9 come first
  pub top_down : rows_shown nine_four_nine (top_gates three_rows (down 0 ∷ []) (Some 2)) ≡ one_number 9 ∷ one_number 9 ∷ []
  -- a row that is not valid counts nowhere, whatever its planes hold
  pub number_invalid : rows_shown nine_nine (number_gates three_rows [] (up 0 ∷ [])) ≡ two_numbers 9 1 ∷ two_numbers 9 2 ∷ []
  pub top_invalid : rows_shown nine_nine (top_gates three_rows [] (Some 1)) ≡ one_number 9 ∷ []
  -- by the first column and the second, descending
  pub number_partition : rows_shown pairs_of (number_gates four_pairs (0 ∷ []) (down 1 ∷ [])) ≡ three_numbers 1 5 2 ∷ three_numbers 2 7 1 ∷ three_numbers 1 5 3 ∷ three_numbers 1 9 1 ∷ []
  pub top_two : rows_shown pairs_of (top_gates four_pairs (up 0 ∷ down 1 ∷ []) (Some 2)) ≡ two_numbers 1 5 ∷ two_numbers 1 9 ∷ []
