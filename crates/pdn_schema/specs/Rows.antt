-- Rows that are valid for a table, a site's valid tables, and the union of two sites' tables.
use Rattle.std.specs.Prelude.{◌≡◌, ◌≢◌, ◌≤◌, ◌<◌, ◌==◌, ℕ, List, [], ◌++◌, length, map, take, get_or, count_by, Some}
use Rattle.std.specs.List.{All, slice_get}
use Rattle.pdn_base.specs.declared.marks.Kind.{Kind}
use Rattle.pdn_base.specs.declared.marks.Kind.TheVariants as kinds
use Rattle.pdn_base.specs.declared.marks.Label.TheVariants as labels
use Rattle.pdn_base.specs.declared.rows_err.RowsErr.{RowsErr}
use Rattle.pdn_base.specs.declared.rows_err.RowsErr.TheVariants.{TooMany, PerValue, WrongType}
use Rattle.pdn_base.specs.declared.value.Value.{Value}
use Rattle.pdn_base.specs.declared.value.Value.TheVariants as value
use Rattle.pdn_base.specs.Values.{number_of, cell}
use Rattle.pdn_schema.specs.declared.schema.Column.{Column}
use Rattle.pdn_schema.specs.Models.{TableModel, SchemaModel, table_of}

abbrev pub value_kind : Value → Kind
value_kind (value.Int n) = kinds.Int
value_kind (value.Code c) = kinds.Code

abbrev pub kinds_of : List Value → List Kind
kinds_of row = map value_kind row

abbrev pub column_kinds : List Column → List Kind
column_kinds columns = map (λ c. c.kind) columns

-- the row has the width and the kinds of these columns
abbrev pub HasKinds : List Column → List Value → Type 0
HasKinds columns row = kinds_of row ≡ column_kinds columns

-- in how many rows the value of this number stands in a column
unfoldable pub standing : ℕ → ℕ → List (List Value) → ℕ
standing column number rows = count_by (λ row. number_of (cell row column) == number) rows

-- where the column is public, no value stands in too many rows
abbrev pub KeepsPer : List (List Value) → ℕ → Column → Type 0
KeepsPer rows at column = column.mark ≡ labels.Public → (number : ℕ) → standing at number rows ≤ column.per

abbrev pub KeepEach : List Column → List (List Value) → Type 0
KeepEach columns rows = (at : ℕ) (column : Column) → slice_get columns at ≡ Some column → KeepsPer rows at column

-- every row has the table's width and kinds, there are not too many, and each value of a public column stands in few enough
pub record IsValid (t : TableModel) (rows : List (List Value)) : Type 0 where
  pub kinds : All (HasKinds t.columns) rows
  pub few : length rows ≤ t.rows
  pub per : KeepEach t.columns rows

-- a site's tables are valid for a schema: one list of valid rows for each table
pub record AreValid (s : SchemaModel) (tables : List (List (List Value))) : Type 0 where
  pub count : length tables ≡ length s.tables
  pub each : (t : ℕ) → t < length s.tables → IsValid (table_of s t) (get_or tables t [])

-- the rows of a table in the union: A's rows followed by B's
abbrev pub union : List (List (List Value)) → List (List (List Value)) → ℕ → List (List Value)
union a b t = get_or a t [] ++ get_or b t []

-- ---- why rows are refused

-- the kinds differ first at this place, where one of them may be missing
pub record DifferAt (columns : List Column) (row : List Value) (at : ℕ) : Type 0 where
  pub before : take at (kinds_of row) ≡ take at (column_kinds columns)
  pub here : slice_get (kinds_of row) at ≢ slice_get (column_kinds columns) at

-- the first row whose kinds differ, and in it the first column
pub record IsFirstWrong (columns : List Column) (rows : List (List Value)) (row column : ℕ) : Type 0 where
  pub within : row < length rows
  pub before : All (HasKinds columns) (take row rows)
  pub here : DifferAt columns (get_or rows row []) column

-- the first public column with a value that stands in too many rows
pub record IsFirstOver (columns : List Column) (rows : List (List Value)) (at : ℕ) : Type 0 where
  pub before : KeepEach (take at columns) rows
  pub column : Column
  pub is : slice_get columns at ≡ Some column
  pub public : column.mark ≡ labels.Public
  pub number : ℕ
  pub over : column.per < standing at number rows

-- wrong types go before too many rows, and these before too many of one value
abbrev pub IsRefused : TableModel → List (List Value) → RowsErr → Type 0
IsRefused t rows (WrongType row column) = IsFirstWrong t.columns rows row column
IsRefused t rows TooMany = All (HasKinds t.columns) rows × (t.rows < length rows)
IsRefused t rows (PerValue column) = All (HasKinds t.columns) rows × (length rows ≤ t.rows) × IsFirstOver t.columns rows column
