-- The head of a request, as it is taken: what `httparse` reads, within two bounds.
use Rattle.std.specs.Prelude.{ℕ, ◌≤◌, ◌==◌, Bool, List, ◌++◌, length, map}
use Rattle.std.specs.List.{filter, before_first}
use Rattle.std.specs.Str.{str_eq_ignore_ascii_case}
use Rattle.httparse.specs.Grammar.{ReadsRequest, RequestHead, print_request}
use Rattle.httparse.specs.Spans.{name_and_value}

-- At the front of the bytes stands a head of at most 8192 bytes with at most 64 lines below its first, and then come these.
pub record IsHead (bytes : List ℕ) (h : RequestHead) (rest : List ℕ) : Type 0 where
  pub reads : ReadsRequest bytes h rest
  pub short : length (print_request h) ≤ 8192
  pub few : length h.fields ≤ 64

-- no front of the bytes is a head
abbrev pub HasNoHead : List ℕ → Type 0
HasNoHead bytes = (h : RequestHead) (rest : List ℕ) → ¬ (IsHead bytes h rest)

-- whatever follows the bytes
abbrev pub NeverHasHead : List ℕ → Type 0
NeverHasHead bytes = (more : List ℕ) → HasNoHead (bytes ++ more)

-- the names of a head's lines, each with its value
abbrev pub lines_of : RequestHead → List (List ℕ × List ℕ)
lines_of h = map name_and_value h.fields

-- whether a line has this name, in letters of either case
abbrev pub has_name : List ℕ → List ℕ × List ℕ → Bool
has_name name line = str_eq_ignore_ascii_case line.0 name

-- the values of the lines of this name
abbrev pub values_of : List ℕ → List (List ℕ × List ℕ) → List (List ℕ)
values_of name lines = map (λ line. line.1) (filter (has_name name) lines)

-- the path of a target: what stands before its first `?`
abbrev pub path_of : List ℕ → List ℕ
path_of target = before_first (λ byte. byte == 63) target
