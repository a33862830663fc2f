-- Tokens of bytes.
use Rattle.std.specs.Prelude.{codes, ℕ, zero, suc, ◌+◌, ◌-◌, ◌*◌, ◌^◌, List, [], ◌∷◌, length, take, drop, slice_index, Bool, false, ◌&&◌, ◌||◌, not, if◌then◌else◌, nat_lt, nat_le, ◌==◌, Option, Some, None}
use Rattle.std.specs.Str.{bytes_eq, str_to_ascii_lowercase}
use Rattle.pdn_base.specs.Codes.{read_code}
use Rattle.pdn_sql.specs.declared.token.Placed.{Placed}
use Rattle.pdn_sql.specs.declared.token.Token.{Token}
use Rattle.pdn_sql.specs.declared.token.Token.TheVariants as tokens
use Rattle.pdn_sql.specs.declared.lexer.Class.{Class}
use Rattle.pdn_sql.specs.declared.lexer.Piece.{Piece}
use Rattle.pdn_sql.specs.declared.lexer.Class.TheVariants as classes
use Rattle.pdn_sql.specs.declared.token.Keyword.{Keyword}
use Rattle.pdn_sql.specs.declared.token.Keyword.TheVariants as words
use Rattle.pdn_sql.specs.declared.token.Symbol.TheVariants as marks

-- ---- classes of bytes

abbrev pub is_digit : ℕ → Bool
is_digit b = nat_le 48 b && nat_le b 57

abbrev pub is_letter : ℕ → Bool
is_letter b = (nat_le 65 b && nat_le b 90) || (nat_le 97 b && nat_le b 122)

abbrev pub is_word_byte : ℕ → Bool
is_word_byte b = is_letter b || is_digit b || b == 95

abbrev pub is_blank : ℕ → Bool
is_blank b = b == 32 || b == 9 || b == 13 || b == 10

abbrev pub is_line_byte : ℕ → Bool
is_line_byte b = not (b == 10)

abbrev pub is_inside : ℕ → Bool
is_inside b = not (b == 39)

abbrev pub test_of : Class → ℕ → Bool
test_of classes.Word b = is_word_byte b
test_of classes.Digit b = is_digit b
test_of classes.Line b = is_line_byte b
test_of classes.Inside b = is_inside b

-- the bytes of a class at the front: how many
abbrev pub run : (ℕ → Bool) → List ℕ → ℕ
run test [] = 0
run test (b ∷ bs) = if test b then suc (run test bs) else 0

-- ---- the piece of the text at the front

-- the keyword that a text in small letters is
unfoldable pub keyword_of : List ℕ → Option Keyword
keyword_of text =
    if bytes_eq text (codes "select") then Some words.Select
    else if bytes_eq text (codes "distinct") then Some words.Distinct
    else if bytes_eq text (codes "from") then Some words.From
    else if bytes_eq text (codes "as") then Some words.As
    else if bytes_eq text (codes "join") then Some words.Join
    else if bytes_eq text (codes "inner") then Some words.Inner
    else if bytes_eq text (codes "on") then Some words.On
    else if bytes_eq text (codes "where") then Some words.Where
    else if bytes_eq text (codes "and") then Some words.And
    else if bytes_eq text (codes "or") then Some words.Or
    else if bytes_eq text (codes "group") then Some words.Group
    else if bytes_eq text (codes "by") then Some words.By
    else if bytes_eq text (codes "having") then Some words.Having
    else if bytes_eq text (codes "order") then Some words.Order
    else if bytes_eq text (codes "limit") then Some words.Limit
    else if bytes_eq text (codes "with") then Some words.With
    else if bytes_eq text (codes "count") then Some words.Count
    else if bytes_eq text (codes "row_number") then Some words.RowNumber
    else if bytes_eq text (codes "over") then Some words.Over
    else if bytes_eq text (codes "partition") then Some words.Partition
    else if bytes_eq text (codes "asc") then Some words.Asc
    else if bytes_eq text (codes "desc") then Some words.Desc
    else None

-- a word in small letters that is no keyword
abbrev pub name_token : List ℕ → Token
name_token text = if nat_lt 16 (length text) then tokens.Bad 4 else tokens.Name text

abbrev pub word_or : Option Keyword → List ℕ → Token
word_or (Some word) text = tokens.Word word
word_or None text = name_token text

-- the token of a word in small letters
abbrev pub word_token : List ℕ → Token
word_token text = word_or (keyword_of text) text

-- the number that the digits write behind those of n
abbrev pub value_from : ℕ → List ℕ → ℕ
value_from n [] = n
value_from n (b ∷ bs) = value_from (n * 10 + (b - 48)) bs

unfoldable pub number_token : List ℕ → Token
number_token digits = if nat_lt (value_from 0 digits) (2 ^ 32) then tokens.Number (value_from 0 digits) else tokens.Bad 2

abbrev pub code_or : Option ℕ → Token
code_or (Some code) = tokens.Code code
code_or None = tokens.Bad 3

-- what stands between the quotes
abbrev pub code_token : List ℕ → Token
code_token inside = code_or (read_code inside)

-- behind a quote: what stands up to the next one, and that one
unfoldable pub code_piece : List ℕ → Piece
code_piece bs =
    if nat_lt (run is_inside bs) (length bs)
    then record { more = suc (run is_inside bs); token = Some (code_token (take (run is_inside bs) bs)) }
    else record { more = length bs; token = Some (tokens.Bad 3) }

unfoldable pub mark_token : ℕ → Token
mark_token b =
    if b == 40 then tokens.Mark marks.Open
    else if b == 41 then tokens.Mark marks.Close
    else if b == 44 then tokens.Mark marks.Comma
    else if b == 46 then tokens.Mark marks.Dot
    else if b == 59 then tokens.Mark marks.Semicolon
    else if b == 42 then tokens.Mark marks.Star
    else if b == 43 then tokens.Mark marks.Plus
    else if b == 61 then tokens.Mark marks.Equal
    else if b == 60 then tokens.Mark marks.Less
    else if b == 62 then tokens.Mark marks.More
    else tokens.Bad 1

unfoldable pub word_piece : List ℕ → Piece
word_piece bytes = record { more = run is_word_byte (drop 1 bytes); token = Some (word_token (str_to_ascii_lowercase (take (run is_word_byte (drop 1 bytes) + 1) bytes))) }

unfoldable pub number_piece : List ℕ → Piece
number_piece bytes = record { more = run is_digit (drop 1 bytes); token = Some (number_token (take (run is_digit (drop 1 bytes) + 1) bytes)) }

abbrev pub is_pair : ℕ → ℕ → List ℕ → Bool
is_pair b c (x ∷ y ∷ bs) = x == b && y == c
is_pair b c bytes = false

abbrev pub first : List ℕ → ℕ
first bytes = slice_index bytes 0

-- the longest symbol at the front
unfoldable pub mark_piece : List ℕ → Piece
mark_piece bytes =
    if is_pair 60 62 bytes then record { more = 1; token = Some (tokens.Mark marks.Unequal) }
    else if is_pair 60 61 bytes then record { more = 1; token = Some (tokens.Mark marks.AtMost) }
    else if is_pair 62 61 bytes then record { more = 1; token = Some (tokens.Mark marks.AtLeast) }
    else record { more = 0; token = Some (mark_token (first bytes)) }

-- the piece at the front of bytes, of which there is one
unfoldable pub piece_of : List ℕ → Piece
piece_of bytes =
    if is_blank (first bytes) then record { more = 0; token = None }
    else if is_pair 45 45 bytes then record { more = run is_line_byte (drop 1 bytes); token = None }
    else if is_letter (first bytes) then word_piece bytes
    else if is_digit (first bytes) then number_piece bytes
    else if first bytes == 39 then code_piece (drop 1 bytes)
    else mark_piece bytes

-- ---- all pieces

abbrev pub put : Option Token → ℕ → List Placed → List Placed
put None place ts = ts
put (Some token) place ts = record { at = place; token = token } ∷ ts

-- the tokens of bytes at a place, the first of which still belong to the piece before
unfoldable pub tokens_from : ℕ → ℕ → List ℕ → List Placed
tokens_from left place [] = []
tokens_from (suc left) place (b ∷ bs) = tokens_from left (place + 1) bs
tokens_from zero place (b ∷ bs) = put (piece_of (b ∷ bs)).token place (tokens_from (piece_of (b ∷ bs)).more (place + 1) bs)

abbrev pub tokens_of : List ℕ → List Placed
tokens_of bytes = tokens_from 0 0 bytes
