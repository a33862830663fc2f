-- What every schema keeps.
use Rattle.std.specs.Prelude.{◌≡◌, ◌≤◌, ℕ, List, length, map, true}
use Rattle.std.specs.Str.{bytes_eq}
use Rattle.std.specs.List.{AllByRecursion, IsDistinct}
use Rattle.pdn_base.specs.declared.marks.Label.{Label}
use Rattle.pdn_base.specs.declared.marks.Label.TheVariants as labels
use Rattle.pdn_schema.specs.declared.schema.Column.{Column}
use Rattle.pdn_schema.specs.declared.schema.Caller.{Caller}
use Rattle.pdn_schema.specs.Models.{TableModel, SchemaModel}
use Rattle.pdn_schema.specs.Names.{is_name}

abbrev pub caller_names : List Caller → List (List ℕ)
caller_names callers = map (λ c. c.name) callers

abbrev pub column_names : List Column → List (List ℕ)
column_names columns = map (λ c. c.name) columns

abbrev pub table_names : List TableModel → List (List ℕ)
table_names tables = map (λ t. t.name) tables

pub record IsCaller (c : Caller) : Type 0 where
  pub name : is_name c.name ≡ true
  pub least : 1 ≤ c.calls
  pub most : c.calls ≤ 65536

-- how many rows one value may stand in, of this many: a public column says 1 to 64, no other says any
abbrev pub PerFits : Label → ℕ → ℕ → Type 0
PerFits labels.Public rows per = (1 ≤ per) × (per ≤ 64) × (per ≤ rows)
PerFits mark rows per = per ≡ 0

pub record IsColumn (rows : ℕ) (c : Column) : Type 0 where
  pub name : is_name c.name ≡ true
  pub per : PerFits c.mark rows c.per

-- the head of a table, and the columns that it has so far
pub record IsOpenTable (t : TableModel) : Type 0 where
  pub name : is_name t.name ≡ true
  pub least : 1 ≤ t.rows
  pub most : t.rows ≤ 256
  pub few : length t.columns ≤ 8
  pub each : AllByRecursion (IsColumn t.rows) t.columns
  pub distinct : IsDistinct bytes_eq (column_names t.columns)

pub record IsTable (t : TableModel) : Type 0 where
  pub head : IsOpenTable t
  pub some : 1 ≤ length t.columns

pub record IsCallers (callers : List Caller) : Type 0 where
  pub few : length callers ≤ 8
  pub each : AllByRecursion IsCaller callers
  pub distinct : IsDistinct bytes_eq (caller_names callers)

pub record IsTables (tables : List TableModel) : Type 0 where
  pub few : length tables ≤ 8
  pub each : AllByRecursion IsTable tables
  pub distinct : IsDistinct bytes_eq (table_names tables)

pub record IsFloor (floor : ℕ) : Type 0 where
  pub least : 1 ≤ floor
  pub most : floor ≤ 64

-- a floor of 1 to 64, at most 8 callers, and 1 to 8 tables, with names that differ
pub record IsSchema (s : SchemaModel) : Type 0 where
  pub floor : IsFloor s.floor
  pub callers : IsCallers s.callers
  pub tables : IsTables s.tables
  pub some : 1 ≤ length s.tables
