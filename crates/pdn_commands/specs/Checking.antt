-- What `check` says: the schema, and of each query itself, its output columns and its segments.
use Rattle.std.specs.Prelude.{◌≡◌, ℕ, ◌+◌, List, [], ◌∷◌, ◌++◌, Option, Some, None, Ok, codes, decimal}
use Rattle.std.specs.List.{slice_get}
use Rattle.pdn_base.specs.Texts.{line}
use Rattle.pdn_schema.specs.Models.{SchemaModel, TableModel}
use Rattle.pdn_schema.specs.Printing.{text_of}
use Rattle.pdn_sql.specs.Printing.{query_text}
use Rattle.pdn_sql.specs.declared.query.Query.{Query}
use Rattle.pdn_tree.specs.Plans.{PlanModel}
use Rattle.pdn_tree.specs.declared.plan.OutColumn.{OutColumn}
use Rattle.pdn_level.specs.Levels.{segments_of}
use Rattle.pdn_level.specs.Models.{SegmentModel}
use Rattle.pdn_level.specs.declared.staged.Leaf.{Leaf}
use Rattle.pdn_query.specs.Answering.{query_name}
use Rattle.pdn_query.specs.Questions.{IsBound}
use Rattle.pdn_query.specs.Script.{Script, Finish, Say, binding, column_name}

-- a query as it is printed, behind its number
abbrev pub query_line : ℕ → Query → List ℕ
query_line number query = line (query_name number ++ codes " " ++ query_text query)

-- an output column
abbrev pub column_line : OutColumn → List ℕ
column_line column = line (codes "column " ++ column.name ++ codes " public")

abbrev pub column_lines : List OutColumn → List ℕ
column_lines [] = []
column_lines (column ∷ columns) = column_line column ++ column_lines columns

abbrev pub dotted : List ℕ → List ℕ → List ℕ
dotted table column = codes " " ++ table ++ codes "." ++ column

-- a leaf: its table and the column to which it is traced, by their names, or by numbers where the schema has no such table
abbrev pub leaf_named : Leaf → Option TableModel → List ℕ
leaf_named leaf None = dotted (decimal leaf.table) (decimal leaf.column)
leaf_named leaf (Some t) = dotted t.name (column_name t leaf.column)

abbrev pub leaf_text : SchemaModel → Leaf → List ℕ
leaf_text s leaf = leaf_named leaf (slice_get s.tables leaf.table)

abbrev pub leaves_text : SchemaModel → List Leaf → List ℕ
leaves_text s [] = []
leaves_text s (leaf ∷ leaves) = leaf_text s leaf ++ leaves_text s leaves

-- a segment, with its leaves
abbrev pub segment_line : SchemaModel → ℕ → SegmentModel → List ℕ
segment_line s number segment = line (codes "segment " ++ decimal number ++ codes " by" ++ leaves_text s segment.leaves)

-- segments, numbered from this number on
abbrev pub segment_lines : SchemaModel → ℕ → List SegmentModel → List ℕ
segment_lines s number [] = []
segment_lines s number (segment ∷ segments) = segment_line s number segment ++ segment_lines s (number + 1) segments

-- a query of this number with its plan
abbrev pub query_report : SchemaModel → ℕ → Query → PlanModel → List ℕ
query_report s number query plan = query_line number query ++ column_lines plan.columns ++ segment_lines s 0 (segments_of s plan.root [])

-- a query is bound; what follows is its report
abbrev pub query_reporting : SchemaModel → ℕ → Query → (List ℕ → Script) → Script
query_reporting s number query next = binding s query (λ plan. next (query_report s number query plan))

-- the plan of each query is asked for, in order; what follows their reports
abbrev pub reporting : SchemaModel → ℕ → List Query → (List ℕ → Script) → Script
reporting s number [] next = next []
reporting s number (query ∷ queries) next = query_reporting s number query (λ first. reporting s (number + 1) queries (λ more. next (first ++ more)))

-- the schema and the reports, in one put
abbrev pub report_script : SchemaModel → List Query → Script
report_script s queries = reporting s 1 queries (λ text. Say (text_of s ++ text) Finish)

-- These queries have plans, and the text is their reports, one after the other.
abbrev pub AreReported : SchemaModel → ℕ → List Query → List ℕ → Type 0
AreReported s number [] text = text ≡ []
AreReported s number (query ∷ queries) text = (plan : PlanModel) × (more : List ℕ) × IsBound s query (Ok plan) × (text ≡ query_report s number query plan ++ more)
    × AreReported s (number + 1) queries more
