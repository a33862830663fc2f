-- Where a place of a file stands, as lines and columns count it, and what is said of it.
use Rattle.std.specs.Prelude.{ℕ, ◌+◌, List, [], ◌∷◌, ◌++◌, length, take, drop, map, replicate, codes, decimal, count_by, Bool, ◌&&◌, ◌||◌, not, if◌then◌else◌, nat_lt, nat_le, ◌==◌, Option, Some, None}
use Rattle.std.specs.Char.{is_ascii_digit}
use Rattle.std.specs.List.{after_last, before_first, prefix_len}
use Rattle.pdn_base.specs.Numbers.{number_of}
use Rattle.pdn_explain.specs.Forms.{fits, meaning}
use Rattle.pdn_explain.specs.declared.table.Told.{Told}

abbrev pub is_line_feed : ℕ → Bool
is_line_feed byte = byte == 10

abbrev pub is_no_line_feed : ℕ → Bool
is_no_line_feed byte = not (byte == 10)

-- a byte with which a character begins: in UTF-8 those of 128 to 191 go on with one
abbrev pub begins_character : ℕ → Bool
begins_character byte = nat_lt byte 128 || nat_le 192 byte

-- the byte by which a byte of a file is shown: a blank for a tab and a carriage return, `?` for every other control character
abbrev pub shown : ℕ → ℕ
shown byte = if byte == 9 || byte == 13 then 32 else if nat_lt byte 32 || byte == 127 then 63 else byte

-- how many line feeds stand before a place, and one more
abbrev pub line_at : List ℕ → ℕ → ℕ
line_at file place = count_by is_line_feed (take place file) + 1

-- what stands before a place in its line
abbrev pub line_before : List ℕ → ℕ → List ℕ
line_before file place = after_last is_line_feed (take place file)

-- what stands from a place on in its line
abbrev pub line_behind : List ℕ → ℕ → List ℕ
line_behind file place = before_first is_line_feed (drop place file)

-- how many characters stand before a place in its line, and one more
abbrev pub column_at : List ℕ → ℕ → ℕ
column_at file place = count_by begins_character (line_before file place) + 1

-- the line and the column of a place, its line as it is shown, and under the place a mark
unfoldable pub place_text : List ℕ → ℕ → List ℕ
place_text file place =
    codes "line " ++ decimal (line_at file place) ++ codes ", column " ++ decimal (column_at file place) ++ codes "\n"
    ++ map shown (line_before file place ++ line_behind file place) ++ codes "\n"
    ++ replicate (count_by begins_character (line_before file place)) 32 ++ codes "^\n"

-- the form of a line that names a place
unfoldable pub placed : List ℕ
placed = codes "refused 4 place # kind #"

-- the place that a line of this form names
abbrev pub place_of : List ℕ → Option ℕ
place_of line =
    if fits placed line then number_of (take (prefix_len is_ascii_digit (drop 16 line)) (drop 16 line)) else None

-- a sentence, and where in a file; nothing where no place is named, or the file ends before it
abbrev pub told_there : List ℕ → Option ℕ → List ℕ → Option (List ℕ)
told_there means None file = None
told_there means (Some place) file = if nat_le place (length file) then Some (means ++ codes "\n" ++ place_text file place) else None

abbrev pub told_in : Option (List ℕ) → List ℕ → List ℕ → Option (List ℕ)
told_in None line file = None
told_in (Some means) line file = told_there means (place_of line) file

-- what a line says, and where in a file
abbrev pub meaning_in : List Told → List ℕ → List ℕ → Option (List ℕ)
meaning_in lines line file = told_in (meaning lines line) line file
