-- The standing queries of the stated network.
use Rattle.std.specs.Prelude.{ℕ, List, [], ◌++◌, codes, Ok, Err}
use Rattle.pdn_sql.specs.declared.query.Query.{Query}
use Rattle.pdn_sql.specs.Part.{Read}
use Rattle.pdn_sql.specs.Part as part
use Rattle.pdn_sql.specs.Grammar.{file}
use Rattle.pdn_sql.specs.Marks.{marked_tokens}

-- who fell ill again within 15 to 56 days
unfoldable pub recurrent_text : List ℕ
recurrent_text =
    codes "WITH d AS (SELECT pid, day, ROW_NUMBER() OVER (PARTITION BY pid ORDER BY day) AS r FROM diag WHERE code = 'cdiff') "
    ++ codes "SELECT DISTINCT a.pid FROM d a JOIN d b ON a.pid = b.pid AND b.r = a.r + 1 "
    ++ codes "WHERE b.day >= a.day + 15 AND b.day <= a.day + 56 ORDER BY pid;"

-- the two commonest codes
unfoldable pub common_text : List ℕ
common_text = codes "SELECT code, COUNT(*) AS n FROM diag GROUP BY code HAVING COUNT(*) >= 3 ORDER BY n DESC LIMIT 2;"

-- how many rows are of day 30 or later
unfoldable pub late_text : List ℕ
late_text = codes "SELECT COUNT(*) FROM diag WHERE day >= 30;"

unfoldable pub standing_text : List ℕ
standing_text = recurrent_text ++ common_text ++ late_text

abbrev pub value_or_none : Read (List Query) → List Query
value_or_none (Ok x) = x.0
value_or_none (Err rest) = []

-- what the text says
unfoldable pub standing : List Query
standing = value_or_none (part.whole file (marked_tokens 3 standing_text))
