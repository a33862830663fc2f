-- The bodies of replies, as compact JSON.
use Rattle.std.specs.Prelude.{ℕ, List, [], ◌∷◌, ◌++◌, map, codes, decimal}
use Rattle.json.specs.Print.{quoted}
use Rattle.pdn_base.specs.Codes.{code_text}
use Rattle.pdn_base.specs.Operators.{Rows}
use Rattle.pdn_base.specs.declared.value.Value.{Value}
use Rattle.pdn_base.specs.declared.value.Value.TheVariants as value
use Rattle.pdn_tree.specs.declared.plan.OutColumn.{OutColumn}

-- the body that names an error
abbrev pub error_text : List ℕ → List ℕ
error_text error = codes "{\"error\":" ++ quoted error ++ codes "}"

-- texts, each behind a comma
abbrev pub after_commas : List (List ℕ) → List ℕ
after_commas [] = []
after_commas (text ∷ texts) = codes "," ++ text ++ after_commas texts

-- texts, parted by commas
abbrev pub by_commas : List (List ℕ) → List ℕ
by_commas [] = []
by_commas (text ∷ texts) = text ++ after_commas texts

-- a list of values whose texts these are
abbrev pub list_text : List (List ℕ) → List ℕ
list_text texts = codes "[" ++ by_commas texts ++ codes "]"

-- a number, or a code as a string
abbrev pub value_text : Value → List ℕ
value_text (value.Int n) = decimal n
value_text (value.Code code) = quoted (code_text code)

abbrev pub columns_text : List OutColumn → List ℕ
columns_text columns = list_text (map (λ (c : OutColumn). quoted c.name) columns)

abbrev pub rows_text : Rows → List ℕ
rows_text rows = list_text (map (λ (row : List Value). list_text (map value_text row)) rows)

-- the body that gives the rows of an answer, which has these columns and this ticket
abbrev pub answer_text : List OutColumn → Rows → ℕ → List ℕ
answer_text columns rows ticket =
    codes "{\"columns\":" ++ (columns_text columns ++ (codes ",\"rows\":" ++ (rows_text rows ++ (codes ",\"ticket\":" ++ (decimal ticket ++ codes "}")))))
