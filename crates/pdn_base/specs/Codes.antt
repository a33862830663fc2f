-- Codes: texts of 1 to 8 bytes, and their numbers.
use Rattle.std.specs.Prelude.{◌≡◌, ℕ, ◌-◌, nat_le, Bool, not, eqb, ◌&&◌, cond, List, [], ◌∷◌, ◌++◌, length, replicate, Option, Some, None}
use Rattle.std.specs.List.{list_all}
use Rattle.std.specs.Int.{w64, from_be_bytes, to_be_bytes}

-- a printable byte other than the blank, the two quotes and the comma
unfoldable pub is_code_byte : ℕ → Bool
is_code_byte b = nat_le 0x21 b && nat_le b 0x7E && not (eqb b 0x22) && not (eqb b 0x27) && not (eqb b 0x2C)

unfoldable pub is_code : List ℕ → Bool
is_code bytes = nat_le 1 (length bytes) && nat_le (length bytes) 8 && list_all is_code_byte bytes

-- the bytes, filled on the right with zero bytes to 8, as a big-endian number
unfoldable pub code_number : List ℕ → ℕ
code_number bytes = from_be_bytes w64 (bytes ++ replicate (8 - length bytes) 0)

-- the code that a text is
abbrev pub read_code : List ℕ → Option ℕ
read_code bytes = cond (is_code bytes) (Some (code_number bytes)) None

-- the bytes before the first zero byte
abbrev pub before_zero : List ℕ → List ℕ
before_zero [] = []
before_zero (b ∷ bs) = cond (eqb b 0) [] (b ∷ before_zero bs)

-- the text of a code, from its number
unfoldable pub code_text : ℕ → List ℕ
code_text number = before_zero (to_be_bytes w64 number)

-- some text has this number
abbrev pub IsCodeNumber : ℕ → Type 0
IsCodeNumber number = read_code (code_text number) ≡ Some number
