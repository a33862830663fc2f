-- What `gen` says of a query: its answer in short, over the network's tables.
use Rattle.std.specs.Prelude.{◌≡◌, ℕ, ◌==◌, if◌then◌else◌, List, [], ◌++◌, length, take, None, codes, decimal}
use Rattle.std.specs.List.{flat_map}
use Rattle.pdn_base.specs.Operators.{Rows}
use Rattle.pdn_base.specs.Texts.{line}
use Rattle.pdn_schema.specs.Models.{SchemaModel}
use Rattle.pdn_schema.specs.Rows.{union}
use Rattle.pdn_sql.specs.declared.query.Query.{Query}
use Rattle.pdn_plan.specs.Answer.{answer}
use Rattle.pdn_plan.specs.Binding.{refusal, plan}
use Rattle.pdn_plan.specs.Planning.{root}
use Rattle.pdn_tree.specs.Plans.{forbidden}
use Rattle.pdn_query.specs.Answering.{query_name, row_line, units_over, or_large, ticketing}
use Rattle.pdn_query.specs.Script.{Script}

-- ---- the text

abbrev pub network_line : ℕ → ℕ → List ℕ
network_line seed patients = line (codes "gen " ++ decimal seed ++ codes " patients " ++ decimal patients)

abbrev pub summary_line : ℕ → ℕ → ℕ → List ℕ
summary_line number rows units = line (query_name number ++ codes " rows " ++ decimal rows ++ codes " units " ++ decimal units)

-- the answer to the query of this number in short: how many rows it has, over how many units, and its first three rows at most
abbrev pub summary : ℕ → Rows → ℕ → List ℕ
summary number rows units = summary_line number (length rows) units ++ flat_map row_line (take 3 rows)

-- what stands before the answer to the query of this number: before the first one, the line that names the network
abbrev pub head : ℕ → ℕ → ℕ → List ℕ
head seed patients number = if number == 1 then network_line seed patients else []

abbrev pub short_text : ℕ → ℕ → ℕ → Rows → ℕ → List ℕ
short_text seed patients number rows units = head seed patients number ++ summary number rows units

-- ---- what is asked and said

-- binding refuses nothing of a query, and each column that it puts out is public
abbrev pub Binds : SchemaModel → Query → Type 0
Binds s query = (refusal s query ≡ None) × (forbidden (plan s query).columns ≡ None)

-- A query over both sites' tables: its units pass no limit, and then a ticket is taken. What follows are the rows that it means over
-- their union, and how many units it has.
abbrev pub over : SchemaModel → List Rows → List Rows → Query → (Rows → ℕ → Script) → Script
over s a b query next = or_large (λ units. ticketing (λ ticket. next (answer s (union a b) query) (length units))) (units_over s (root s query) a b)
