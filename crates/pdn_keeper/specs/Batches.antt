-- The batches that a site keeps, and what it answers to one more.
use Rattle.std.specs.Prelude.{◌≡◌, ◌≢◌, ◌≤◌, ◌<◌, ◌⊎◌, ◌+◌, ◌==◌, ◌&&◌, ℕ, List, [], ◌∷◌, ◌++◌, length, take, get_or, Option, Some, None, option_map, Bool, Result, Ok, Err, if◌then◌else◌, ⊤}
use Rattle.std.specs.List.{find, slice_get}
use Rattle.std.specs.Str.{bytes_eq}
use Rattle.pdn_base.specs.declared.marks.Label.TheVariants as labels
use Rattle.pdn_base.specs.declared.value.Value.{Value}
use Rattle.pdn_base.specs.Outside.{CallsMade}
use Rattle.pdn_base.specs.Values.{cell, number_of}
use Rattle.pdn_schema.specs.declared.schema.Column.{Column}
use Rattle.pdn_schema.specs.Models.{TableModel}
use Rattle.pdn_schema.specs.Rows.{standing, KeepEach}
use Rattle.pdn_keeper.specs.declared.site_keeper.Added.{Added}
use Rattle.pdn_keeper.specs.declared.site_keeper.Added.TheVariants.{New, Again}
use Rattle.pdn_keeper.specs.declared.site_keeper.AddErr.{AddErr}
use Rattle.pdn_keeper.specs.declared.site_keeper.AddErr.TheVariants.{Differs, OverRows, OverPer, Failed, Memory}

-- a batch that was taken: the name of its table, its number and its rows
pub record BatchHeld : Type 0 where
  pub table : List ℕ
  pub number : ℕ
  pub rows : List (List Value)

abbrev pub batch_held : List ℕ → ℕ → List (List Value) → BatchHeld
batch_held table number rows = record { table = table; number = number; rows = rows }

-- batches in memory, and the calls that were made of their keeper
pub record SiteHeld : Type 0 where
  pub batches : List BatchHeld
  pub calls : CallsMade

-- the rows of the table of this name, one batch after the other
abbrev pub kept_rows : List ℕ → List BatchHeld → List (List Value)
kept_rows name [] = []
kept_rows name (batch ∷ batches) = if bytes_eq batch.table name then batch.rows ++ kept_rows name batches else kept_rows name batches

-- it is the table's batch of this number
abbrev pub is_batch : List ℕ → ℕ → BatchHeld → Bool
is_batch name number batch = bytes_eq batch.table name && batch.number == number

-- the table's batch of this number
abbrev pub kept_batch : List ℕ → ℕ → List BatchHeld → Option BatchHeld
kept_batch name number batches = find (is_batch name number) batches

-- the lists differ first at this place, where one of them may have ended
pub record DifferFirst (kept rows : List (List Value)) (at : ℕ) : Type 0 where
  pub before : take at kept ≡ take at rows
  pub here : slice_get kept at ≢ slice_get rows at

-- the answer to rows whose number is kept with these
abbrev pub IsCompared : List (List Value) → List (List Value) → Result Added AddErr → Type 0
IsCompared kept rows (Ok Again) = kept ≡ rows
IsCompared kept rows (Ok New) = ⊥
IsCompared kept rows (Err (Differs at row)) = DifferFirst kept rows at × (row ≡ slice_get kept at)
IsCompared kept rows (Err (OverRows count)) = ⊥
IsCompared kept rows (Err (OverPer column value count)) = ⊥
IsCompared kept rows (Err Failed) = ⊤
IsCompared kept rows (Err Memory) = ⊤

-- a value stands in a column of more rows than these, and no value of a lesser number does
pub record IsLeastOver (column per : ℕ) (rows : List (List Value)) (v : Value) : Type 0 where
  pub row : ℕ
  pub within : row < length rows
  pub is : cell (get_or rows row []) column ≡ v
  pub over : per < standing column (number_of v) rows
  pub least : (number : ℕ) → per < standing column number rows → number_of v ≤ number

-- the first public column with a value that stands in too many rows, and its least such value
pub record IsOverPer (columns : List Column) (rows : List (List Value)) (at : ℕ) (v : Value) : Type 0 where
  pub before : KeepEach (take at columns) rows
  pub column : Column
  pub is : slice_get columns at ≡ Some column
  pub public : column.mark ≡ labels.Public
  pub least : IsLeastOver at column.per rows v

-- the answer to rows whose number isn't kept, where the table has these
abbrev pub IsTaken : TableModel → List (List Value) → List (List Value) → Result Added AddErr → Type 0
IsTaken t kept rows (Ok New) = (length kept + length rows ≤ t.rows) × KeepEach t.columns (kept ++ rows)
IsTaken t kept rows (Ok Again) = ⊥
IsTaken t kept rows (Err (Differs at row)) = ⊥
IsTaken t kept rows (Err (OverRows count)) = (t.rows < length kept + length rows) × (count ≡ length kept)
IsTaken t kept rows (Err (OverPer column value count)) = (length kept + length rows ≤ t.rows) × IsOverPer t.columns (kept ++ rows) column value × (count ≡ standing column (number_of value) kept)
IsTaken t kept rows (Err Failed) = ⊤
IsTaken t kept rows (Err Memory) = ⊤

-- the answer, by the batch of its number
abbrev pub IsAnswerBy : Option BatchHeld → TableModel → List (List Value) → List (List Value) → Result Added AddErr → Type 0
IsAnswerBy (Some batch) t kept rows result = IsCompared batch.rows rows result
IsAnswerBy None t kept rows result = IsTaken t kept rows result

-- The answer to a batch of a table. Where the call failed or memory ran out, its cause is said elsewhere.
abbrev pub IsAnswer : TableModel → List BatchHeld → ℕ → List (List Value) → Result Added AddErr → Type 0
IsAnswer t held number rows result = IsAnswerBy (kept_batch t.name number held) t (kept_rows t.name held) rows result

-- a column that is said to be over its bound is one of these
abbrev pub NamesColumn : List Column → AddErr → Type 0
NamesColumn columns (Differs at row) = ⊤
NamesColumn columns (OverRows count) = ⊤
NamesColumn columns (OverPer column value count) = column < length columns
NamesColumn columns Failed = ⊤
NamesColumn columns Memory = ⊤

abbrev pub with_batch : BatchHeld → Option (List BatchHeld) → Option (List BatchHeld)
with_batch batch held = option_map (λ batches. batches ++ batch ∷ []) held

-- what is kept after each answer
abbrev pub Stands : Option (List BatchHeld) → Option (List BatchHeld) → BatchHeld → Result Added AddErr → Type 0
Stands old new batch (Ok New) = new ≡ with_batch batch old
Stands old new batch (Ok Again) = new ≡ old
Stands old new batch (Err (Differs at row)) = new ≡ old
Stands old new batch (Err (OverRows count)) = new ≡ old
Stands old new batch (Err (OverPer column value count)) = new ≡ old
Stands old new batch (Err Failed) = (new ≡ old) ⊎ (new ≡ with_batch batch old)
Stands old new batch (Err Memory) = new ≡ old
