-- What every file of queries that is read keeps.
use Rattle.std.specs.Prelude.{◌≡◌, ℕ, ◌+◌, ◌<◌, ◌≤◌, Bool, true, false, List, [], ◌∷◌, ◌++◌, length, count_by}
use Rattle.std.specs.List.{AllByRecursion}
use Rattle.pdn_sql.specs.declared.token.Placed.{Placed}
use Rattle.pdn_sql.specs.declared.query.What.{What}
use Rattle.pdn_sql.specs.declared.query.What.TheVariants as whats
use Rattle.pdn_sql.specs.declared.query.Item.{Item}
use Rattle.pdn_sql.specs.declared.query.Query.{Query}
use Rattle.pdn_sql.specs.Grammar.{query}
use Rattle.pdn_sql.specs.Tokens.{tokens_of}

abbrev pub is_row_number : What → Bool
is_row_number (whats.Number partition order) = true
is_row_number w = false

-- how many items are a ROW_NUMBER
abbrev pub row_numbers : List Item → ℕ
row_numbers items = count_by (λ i. is_row_number i.what) items

-- at most four blocks of WITH, and in each block at most one ROW_NUMBER
pub record KeepsLimits (q : Query) : Type 0 where
  pub few_blocks : length q.with ≤ 4
  pub one_in_with : AllByRecursion (λ n. row_numbers n.block.items ≤ 1) q.with
  pub one_in_main : row_numbers q.main.items ≤ 1

-- where the first token stands, and the last
abbrev pub first_at : List Placed → ℕ
first_at [] = 0
first_at (p ∷ ps) = p.at

abbrev pub last_at : List Placed → ℕ
last_at [] = 0
last_at (p ∷ []) = p.at
last_at (p ∷ q ∷ ps) = last_at (q ∷ ps)

-- the tokens are those of the queries one after the other, and the semicolon of each is among its first 4096 bytes
abbrev pub AreShort : List Query → List Placed → Type 0
AreShort [] ts = ts ≡ []
AreShort (q ∷ qs) ts = (front : List Placed) × (back : List Placed) × (ts ≡ front ++ back) × query.says q front × (last_at front < first_at front + 4096) × AreShort qs back

pub record FileKeeps (most : ℕ) (bytes : List ℕ) (queries : List Query) : Type 0 where
  pub few : length queries ≤ most
  pub each : AllByRecursion KeepsLimits queries
  pub short : AreShort queries (tokens_of bytes)
