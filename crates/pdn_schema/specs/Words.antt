-- Lines and words.
use Rattle.std.specs.Prelude.{ℕ, suc, ◌-◌, List, [], ◌∷◌, length, take, slice_index, Bool, ◌&&◌, ◌||◌, not, if◌then◌else◌, nat_lt, ◌==◌, Some, None}
use Rattle.pdn_schema.specs.Cut.{Piece, cut_from}

abbrev pub is_blank : ℕ → Bool
is_blank b = b == 32 || b == 9

abbrev pub is_word_byte : ℕ → Bool
is_word_byte b = not (is_blank b)

abbrev pub is_line_byte : ℕ → Bool
is_line_byte b = not (b == 10)

-- the bytes at the front that pass the test: how many
abbrev pub run : (ℕ → Bool) → List ℕ → ℕ
run test [] = 0
run test (b ∷ bs) = if test b then suc (run test bs) else 0

-- a word is a longest run of bytes that are no blank
abbrev pub word_piece : List ℕ → Piece (List ℕ)
word_piece bytes = if nat_lt 0 (run is_word_byte bytes) then record { more = run is_word_byte bytes - 1; gives = Some (take (run is_word_byte bytes) bytes) } else record { more = 0; gives = None }

abbrev pub words_of : List ℕ → List (List ℕ)
words_of line = cut_from word_piece 0 line

-- a line ends before a line feed, and before a carriage return in front of it; the last one may end with the text
abbrev pub ends_in_return : List ℕ → ℕ → Bool
ends_in_return bytes n = nat_lt 0 n && nat_lt n (length bytes) && slice_index bytes (n - 1) == 13

abbrev pub line_end : List ℕ → ℕ → ℕ
line_end bytes n = if ends_in_return bytes n then n - 1 else n

abbrev pub line_piece : List ℕ → Piece (List ℕ)
line_piece bytes = record {
  more = run is_line_byte bytes;
  gives = Some (take (line_end bytes (run is_line_byte bytes)) bytes);
}

abbrev pub lines_of : List ℕ → List (List ℕ)
lines_of bytes = cut_from line_piece 0 bytes
