-- The bytes in which a database keeps a row.
use Rattle.std.specs.Prelude.{ℕ, List, [], ◌∷◌, ◌++◌}
use Rattle.std.specs.Int.{w64, to_be_bytes}
use Rattle.pdn_base.specs.declared.value.Value.{Value}
use Rattle.pdn_base.specs.Values.{number_of}

-- a number in 8 bytes, most significant first
unfoldable pub eight_bytes : ℕ → List ℕ
eight_bytes number = to_be_bytes w64 number

-- each value's number, column after column
abbrev pub row_bytes : List Value → List ℕ
row_bytes [] = []
row_bytes (v ∷ row) = eight_bytes (number_of v) ++ row_bytes row
