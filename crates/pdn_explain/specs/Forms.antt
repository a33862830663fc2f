-- Forms of lines, and which lines have them.
use Rattle.std.specs.Prelude.{ℕ, List, [], ◌∷◌, length, take, drop, Bool, false, ◌&&◌, ◌||◌, not, if◌then◌else◌, nat_lt, ◌==◌, Option, Some, None}
use Rattle.std.specs.Char.{is_ascii_digit}
use Rattle.std.specs.List.{prefix_len}
use Rattle.pdn_explain.specs.declared.table.Told.{Told}

abbrev pub is_no_blank : ℕ → Bool
is_no_blank byte = not (byte == 32)

-- digits are a number: there are some, and no zero stands before another
abbrev pub is_number : List ℕ → Bool
is_number [] = false
is_number (b ∷ bs) = not (b == 48) || length bs == 0

abbrev pub begins : ℕ → List ℕ → Bool
begins byte [] = false
begins byte (b ∷ bs) = b == byte

-- `#` is a number, `*` a word without blanks, `~` any text; every other byte is itself
abbrev pub fits : List ℕ → List ℕ → Bool
fits [] line = length line == 0
fits (f ∷ form) line =
    if f == 35 then is_number (take (prefix_len is_ascii_digit line) line) && fits form (drop (prefix_len is_ascii_digit line) line)
    else if f == 42 then nat_lt 0 (prefix_len is_no_blank line) && fits form (drop (prefix_len is_no_blank line) line)
    else if f == 126 then length form == 0
    else begins f line && fits form (drop 1 line)

-- what the first form that a line has says
abbrev pub meaning : List Told → List ℕ → Option (List ℕ)
meaning [] line = None
meaning (told ∷ more) line = if fits told.form.now line then Some told.means.now else meaning more line
