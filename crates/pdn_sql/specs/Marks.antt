-- Marks: tokens that can't stand for a reason that no production says, and where a query is too long.
use Rattle.std.specs.Prelude.{ℕ, ◌+◌, ◌-◌, List, [], ◌∷◌, length, Bool, true, false, ◌&&◌, not, if◌then◌else◌, nat_lt, ◌==◌, Option, Some, None}
use Rattle.pdn_sql.specs.declared.token.Placed.{Placed}
use Rattle.pdn_sql.specs.declared.token.Token.{Token}
use Rattle.pdn_sql.specs.declared.token.Token.TheVariants.{Word, Mark}
use Rattle.pdn_sql.specs.declared.token.Token.TheVariants as tokens
use Rattle.pdn_sql.specs.declared.token.Keyword.TheVariants as words
use Rattle.pdn_sql.specs.declared.token.Symbol.TheVariants as marks
use Rattle.pdn_sql.specs.declared.seen.Seen.{Seen}
use Rattle.pdn_sql.specs.Tokens.{tokens_of}

-- ---- what is seen before a token

-- a ROW_NUMBER stands before, with no SELECT behind it: each block has one SELECT, at its front
abbrev pub numbered_after : Bool → Token → Bool
numbered_after numbered (Word words.Select) = false
numbered_after numbered (Word words.RowNumber) = true
numbered_after numbered t = numbered

-- how many queries may still end
abbrev pub queries_after : ℕ → Token → ℕ
queries_after queries (Mark marks.Semicolon) = queries - 1
queries_after queries t = queries

-- how many parentheses of the query are open
abbrev pub depth_after : ℕ → Token → ℕ
depth_after depth (Mark marks.Semicolon) = 0
depth_after depth (Mark marks.Open) = depth + 1
depth_after depth (Mark marks.Close) = depth - 1
depth_after depth t = depth

-- how many blocks of WITH may still follow in the query: outside parentheses a comma announces one
abbrev pub blocks_after : ℕ → ℕ → Token → ℕ
blocks_after depth blocks (Mark marks.Semicolon) = 4
blocks_after depth blocks (Mark marks.Comma) = if depth == 0 then blocks - 1 else blocks
blocks_after depth blocks t = blocks

-- a SELECT of the query stands outside parentheses: its main block is begun
abbrev pub main_after : ℕ → Bool → Token → Bool
main_after depth main (Mark marks.Semicolon) = false
main_after depth main (Word words.Select) = if depth == 0 then true else main
main_after depth main t = main

abbrev pub is_comma : Token → Bool
is_comma (Mark marks.Comma) = true
is_comma t = false

abbrev pub first_place : Option ℕ → ℕ → ℕ
first_place (Some first) at = first
first_place None at = at

-- where the query begins, if one is begun: the next begins behind a semicolon among its first 4096 bytes
abbrev pub start_after : Option ℕ → ℕ → Token → Option ℕ
start_after start at (Mark marks.Semicolon) = if nat_lt at (first_place start at + 4096) then None else Some (first_place start at)
start_after start at t = Some (first_place start at)

abbrev pub seen_first : ℕ → Seen
seen_first most = record { numbered = false; queries = most; depth = 0; blocks = 4; main = false; comma = false; start = None }

abbrev pub seen_after : Seen → ℕ → Token → Seen
seen_after s at t = record {
  numbered = numbered_after s.numbered t;
  queries = queries_after s.queries t;
  depth = depth_after s.depth t;
  blocks = blocks_after s.depth s.blocks t;
  main = main_after s.depth s.main t;
  comma = is_comma t;
  start = start_after s.start at t;
}

-- ---- marks

-- the fault that a token is: a second ROW_NUMBER of a block, the first word of a query past the most, the name of a fifth
-- block of WITH
abbrev pub mark_of : Seen → Token → Option ℕ
mark_of s (Word words.RowNumber) = if s.numbered then Some 5 else None
mark_of s (Word words.Select) = if s.queries == 0 then Some 8 else None
mark_of s (Word words.With) = if s.queries == 0 then Some 8 else None
mark_of s (tokens.Name text) = if s.comma && s.depth == 0 && s.blocks == 0 && not s.main then Some 6 else None
mark_of s t = None

abbrev pub marked_or : Option ℕ → Token → Token
marked_or None t = t
marked_or (Some kind) t = tokens.Bad kind

abbrev pub marked_token : Seen → Token → Token
marked_token s t = marked_or (mark_of s t) t

-- the end of the room of a query that begins here, where it is before this place
abbrev pub over : Option ℕ → ℕ → Option ℕ
over None place = None
over (Some first) place = if nat_lt (first + 4096) place then Some (first + 4096) else None

-- what stands behind the end of a query's room is cut off, and a mark stands there
abbrev pub cut : Option ℕ → List Placed → List Placed
cut None ts = ts
cut (Some place) ts = record { at = place; token = tokens.Bad 7 } ∷ []

-- the tokens of a text of so many bytes, with their marks
unfoldable pub marked : ℕ → Seen → List Placed → List Placed
marked end s [] = cut (over s.start end) []
marked end s (p ∷ ps) = cut (over s.start p.at) (record { at = p.at; token = marked_token s p.token } ∷ marked end (seen_after s p.at p.token) ps)

abbrev pub unless : Bool → List Placed → List Placed
unless true ts = []
unless false ts = ts

-- the tokens of a file in which at most so many queries may stand
abbrev pub marked_tokens : ℕ → List ℕ → List Placed
marked_tokens most bytes = marked (length bytes) (seen_first most) (tokens_of bytes)
