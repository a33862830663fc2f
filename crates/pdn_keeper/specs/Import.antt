-- The rows that the records of a CSV text give for a table.
use Rattle.std.specs.Prelude.{◌≡◌, ℕ, ◌+◌, Bool, true, false, ◌&&◌, ◌==◌, List, [], ◌∷◌, length, Option, Some, None, option_map, Result, Ok, Err, if◌then◌else◌, ⊤}
use Rattle.std.specs.Str.{bytes_eq}
use Rattle.pdn_base.specs.declared.marks.Kind.{Kind}
use Rattle.pdn_base.specs.declared.marks.Kind.TheVariants as kinds
use Rattle.pdn_base.specs.declared.value.Value.{Value}
use Rattle.pdn_base.specs.declared.value.Value.TheVariants as value
use Rattle.pdn_base.specs.Codes.{read_code}
use Rattle.pdn_base.specs.Numbers.{number_of}
use Rattle.pdn_schema.specs.declared.schema.Column.{Column}
use Rattle.pdn_keeper.specs.declared.cause.Cause.{Cause}
use Rattle.pdn_keeper.specs.declared.cause.Cause.TheVariants as causes
use Rattle.pdn_keeper.specs.declared.cause.CsvErr.{CsvErr}
use Rattle.pdn_keeper.specs.declared.cause.CsvErr.TheVariants.{At, Memory}

abbrev pub cause_number : Cause → ℕ
cause_number causes.Header = 1
cause_number causes.Width = 2
cause_number causes.Field = 3

-- the value of this kind that a field spells
abbrev pub value_in : Kind → List ℕ → Option Value
value_in kinds.Int field = option_map (λ n. value.Int n) (number_of field)
value_in kinds.Code field = option_map (λ c. value.Code c) (read_code field)

-- a value, where there is one, in front of a row, where there is one
abbrev pub before : Option Value → Option (List Value) → Option (List Value)
before None row = None
before (Some v) row = option_map (λ values. v ∷ values) row

-- the row of a record's fields, where each spells a value of its column
abbrev pub row_in : List Column → List (List ℕ) → Option (List Value)
row_in [] fields = Some []
row_in (c ∷ columns) [] = None
row_in (c ∷ columns) (field ∷ fields) = before (value_in c.kind field) (row_in columns fields)

abbrev pub or_cause : Cause → Option (List Value) → Result (List Value) Cause
or_cause cause None = Err cause
or_cause cause (Some row) = Ok row

-- the row of a record, or the least cause why it is none
abbrev pub row_or_cause : List Column → List (List ℕ) → Result (List Value) Cause
row_or_cause columns fields = if length fields == length columns then or_cause causes.Field (row_in columns fields) else Err causes.Width

-- the record is the columns' names in order
abbrev pub is_header : List Column → List (List ℕ) → Bool
is_header [] [] = true
is_header [] (field ∷ fields) = false
is_header (c ∷ columns) [] = false
is_header (c ∷ columns) (field ∷ fields) = bytes_eq c.name field && is_header columns fields

-- what the record of this number gives, and then what the later ones give
abbrev pub then_rows : ℕ → Result (List Value) Cause → Result (List (List Value)) CsvErr → Result (List (List Value)) CsvErr
then_rows entry (Err cause) later = Err (At entry (cause_number cause))
then_rows entry (Ok row) (Err e) = Err e
then_rows entry (Ok row) (Ok rows) = Ok (row ∷ rows)

-- a row for each of these records, numbered from here on, or the first that is none
abbrev pub rows_after : List Column → ℕ → List (List (List ℕ)) → Result (List (List Value)) CsvErr
rows_after columns entry [] = Ok []
rows_after columns entry (fields ∷ records) = then_rows entry (row_or_cause columns fields) (rows_after columns (entry + 1) records)

-- a header, and then a row for each record
abbrev pub imported : List Column → List (List (List ℕ)) → Result (List (List Value)) CsvErr
imported columns [] = Err (At 0 (cause_number causes.Header))
imported columns (header ∷ records) = if is_header columns header then rows_after columns 1 records else Err (At 0 (cause_number causes.Header))

-- an error is this answer's, or want of memory
abbrev pub OrMemory : Result (List (List Value)) CsvErr → CsvErr → Type 0
OrMemory answer (At entry cause) = answer ≡ Err (At entry cause)
OrMemory answer Memory = ⊤
