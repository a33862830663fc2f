-- Names.
use Rattle.std.specs.Prelude.{codes, ℕ, List, [], ◌∷◌, length, slice_index, Bool, true, not, ◌&&◌, ◌||◌, nat_lt, nat_le, ◌==◌}
use Rattle.std.specs.Str.{bytes_eq}
use Rattle.std.specs.List.{list_any}

abbrev pub is_small : ℕ → Bool
is_small b = nat_le 97 b && nat_le b 122

abbrev pub is_name_byte : ℕ → Bool
is_name_byte b = is_small b || (nat_le 48 b && nat_le b 57) || b == 95

abbrev pub all_name_bytes : List ℕ → Bool
all_name_bytes [] = true
all_name_bytes (b ∷ bs) = is_name_byte b && all_name_bytes bs

-- the words that SQL keeps for itself
abbrev pub is_keyword : List ℕ → Bool
is_keyword word =
    bytes_eq word (codes "select") || bytes_eq word (codes "distinct") || bytes_eq word (codes "from") || bytes_eq word (codes "as")
    || bytes_eq word (codes "join") || bytes_eq word (codes "inner") || bytes_eq word (codes "on") || bytes_eq word (codes "where")
    || bytes_eq word (codes "and") || bytes_eq word (codes "or") || bytes_eq word (codes "group") || bytes_eq word (codes "by")
    || bytes_eq word (codes "having") || bytes_eq word (codes "order") || bytes_eq word (codes "limit") || bytes_eq word (codes "with")
    || bytes_eq word (codes "count") || bytes_eq word (codes "row_number") || bytes_eq word (codes "over")
    || bytes_eq word (codes "partition") || bytes_eq word (codes "asc") || bytes_eq word (codes "desc")

-- a name is 1 to 16 bytes: a small letter, and then small letters, digits and `_`; and no keyword
unfoldable pub is_name : List ℕ → Bool
is_name word = nat_lt 0 (length word) && nat_le (length word) 16 && is_small (slice_index word 0) && all_name_bytes word && not (is_keyword word)

-- the name stands among these
abbrev pub is_among : List (List ℕ) → List ℕ → Bool
is_among names name = list_any (bytes_eq name) names
