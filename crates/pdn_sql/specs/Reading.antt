-- What reading a file answers.
use Rattle.std.specs.Prelude.{◌≡◌, ℕ, List, [], ◌∷◌, length, Result, Ok, Err}
use Rattle.pdn_sql.specs.declared.token.Placed.{Placed}
use Rattle.pdn_sql.specs.declared.token.Token.{Token}
use Rattle.pdn_sql.specs.declared.token.Token.TheVariants as tokens
use Rattle.pdn_sql.specs.declared.query.Query.{Query}
use Rattle.pdn_sql.specs.declared.read.SqlErr.{SqlErr}
use Rattle.pdn_sql.specs.declared.read.SqlErr.TheVariants.{At, Memory}
use Rattle.pdn_sql.specs.Part.{IsFirstFault}
use Rattle.pdn_sql.specs.Grammar.{file}
use Rattle.pdn_sql.specs.Marks.{marked_tokens}

-- the bytes say these queries, of which there may be so many
abbrev pub Says : ℕ → List ℕ → List Query → Type 0
Says most bytes queries = file.says queries (marked_tokens most bytes)

-- where the token at the front stands, or the text's end
abbrev pub place_of : ℕ → List Placed → ℕ
place_of end [] = end
place_of end (p ∷ ps) = p.at

-- a token that is marked has a kind of its own
abbrev pub kind_of_token : Token → ℕ
kind_of_token (tokens.Bad kind) = kind
kind_of_token other = 5

-- at the end of a file: there is no query, or one is not finished
abbrev pub kind_at_end : List Placed → ℕ
kind_at_end [] = 8
kind_at_end (p ∷ ps) = 5

abbrev pub kind_of : List Placed → List Placed → ℕ
kind_of all [] = kind_at_end all
kind_of all (p ∷ ps) = kind_of_token p.token

-- this place and kind are those of the first token that can't stand
pub record IsFault (most : ℕ) (bytes : List ℕ) (place kind : ℕ) : Type 0 where
  pub rest : List Placed
  pub first : IsFirstFault file (marked_tokens most bytes) rest
  pub stands : place ≡ place_of (length bytes) rest
  pub has_kind : kind ≡ kind_of (marked_tokens most bytes) rest

-- an error is Memory, or the first fault
abbrev pub FaultOf : {V : Type 0} → ℕ → List ℕ → Result V SqlErr → Type 0
FaultOf most bytes (Ok v) = Unit {0}
FaultOf most bytes (Err Memory) = Unit {0}
FaultOf most bytes (Err (At place kind)) = IsFault most bytes place kind

-- these queries, unless memory ran out
abbrev pub GivesQueries : {V : Type 0} → (V → List Query) → List Query → Result V SqlErr → Type 0
GivesQueries view queries (Ok v) = view v ≡ queries
GivesQueries view queries (Err Memory) = Unit {0}
GivesQueries view queries (Err (At place kind)) = ⊥
