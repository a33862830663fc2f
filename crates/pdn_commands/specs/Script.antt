-- What a command reads first, and what a load should do.
use Rattle.std.specs.Prelude.{ℕ, List, ◌++◌, length, position, Option, Some, None, codes, decimal}
use Rattle.std.specs.Str.{bytes_eq}
use Rattle.pdn_base.specs.Texts.{line, refusal}
use Rattle.pdn_base.specs.declared.status.Status.TheVariants as status
use Rattle.pdn_base.specs.declared.site.Site.{Site}
use Rattle.pdn_base.specs.declared.value.Value.{Value}
use Rattle.pdn_schema.specs.Models.{SchemaModel, TableModel, table_of}
use Rattle.pdn_sql.specs.declared.query.Query.{Query}
use Rattle.pdn_query.specs.Questions.{File, Batch, SchemaIn, QueriesIn, RowsIn, Answer, New, Again, Differs, OverRows, OverPer}
use Rattle.pdn_query.specs.Script.{Script, Finish, Refuse, Say, Ask, refuse, or_fault, column_name}

-- what follows a read, or the refusal where there is no such file
abbrev pub found : List ℕ → (List ℕ → Script) → Option (List ℕ) → Script
found name next None = refuse (status.NoFile name)
found name next (Some bytes) = next bytes

abbrev pub reading : List ℕ → (List ℕ → Script) → Script
reading name next = Ask (File name) (found name next)

-- the schema that bytes say
abbrev pub with_schema : List ℕ → (SchemaModel → Script) → Script
with_schema bytes next = Ask (SchemaIn bytes) (or_fault status.Schema next)

-- The schema file and then the file of this name are read; then the schema is what the first says.
abbrev pub with_inputs : List ℕ → (SchemaModel → List ℕ → Script) → Script
with_inputs name next = reading (codes "net.schema") (λ net. reading name (λ text. with_schema net (λ s. next s text)))

-- the queries that bytes say
abbrev pub with_queries : List ℕ → (List Query → Script) → Script
with_queries bytes next = Ask (QueriesIn bytes) (or_fault status.Sql next)

-- the number of the table of this name
abbrev pub table_number : List ℕ → SchemaModel → Option ℕ
table_number name s = position (λ (t : TableModel). bytes_eq t.name name) s.tables

-- ---- load

abbrev pub loaded_text : List ℕ → List ℕ → ℕ → ℕ → List ℕ
loaded_text how table number rows = line (codes "loaded " ++ how ++ codes " " ++ table ++ codes " batch " ++ decimal number ++ codes " rows " ++ decimal rows)

-- what follows the line of a batch of so many rows that a site took, or the refusal
abbrev pub answered : TableModel → ℕ → ℕ → (List ℕ → Script) → Answer → Script
answered t number rows next New = next (loaded_text (codes "new") t.name number rows)
answered t number rows next Again = next (loaded_text (codes "again") t.name number rows)
answered t number rows next (Differs at) = refuse (status.BatchDiffers at)
answered t number rows next OverRows = refuse (status.OverBound None)
answered t number rows next (OverPer column) = Refuse (status.OverBound (Some column)) (refusal t.name (column_name t column) (status.OverBound (Some column)))

abbrev pub handing : Site → TableModel → ℕ → List (List Value) → (List ℕ → Script) → Script
handing site t number rows next = Ask (Batch site t number rows) (answered t number (length rows) next)

-- the rows that a CSV text gives
abbrev pub importing : TableModel → List ℕ → (List (List Value) → Script) → Script
importing t csv next = Ask (RowsIn t csv) (or_fault status.Csv next)

abbrev pub load_rows : Site → TableModel → ℕ → List ℕ → Script
load_rows site t number csv = importing t csv (λ rows. handing site t number rows (λ text. Say text Finish))

abbrev pub load_table : Site → List ℕ → ℕ → SchemaModel → List ℕ → Option ℕ → Script
load_table site table number s csv None = refuse (status.Plan 1 table)
load_table site table number s csv (Some at) = load_rows site (table_of s at) number csv

abbrev pub load_script : Site → List ℕ → ℕ → List ℕ → Script
load_script site table number file = with_inputs file (λ s csv. load_table site table number s csv (table_number table s))
