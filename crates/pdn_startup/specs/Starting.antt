-- What a program takes up before its command: the key of the tape, and the rows of the sites' files.
use Rattle.std.specs.Prelude.{◌≡◌, ◌⊎◌, ℕ, ◌-◌, List, [], ◌∷◌, ◌++◌, ◌&&◌, ◌==◌, nat_lt, length, take, slice_index, Bool, true, false, Option, None, Some, Ok, Err, IfSome, codes, if◌then◌else◌}
use Rattle.std.specs.Result.{result_ok}
use Rattle.std.specs.String.{string_bytes}
use Rattle.csv.specs.Reading.{records, default_config, strip_bom}
use Rattle.hex.specs.Hex.{decode_sized}
use Rattle.pdn_base.specs.Texts.{site_text}
use Rattle.pdn_base.specs.declared.site.Site.{Site}
use Rattle.pdn_base.specs.declared.value.Value.{Value}
use Rattle.pdn_keeper.specs.Batches.{BatchHeld, batch_held, with_batch, IsAnswer}
use Rattle.pdn_keeper.specs.Import.{imported}
use Rattle.pdn_keeper.specs.declared.cause.CsvErr.TheVariants.{At}
use Rattle.pdn_keeper.specs.declared.site_keeper.Added.TheVariants.{New, Again}
use Rattle.pdn_keeper.specs.declared.site_keeper.AddErr.{AddErr}
use Rattle.pdn_keeper.specs.declared.site_keeper.AddErr.TheVariants as no
use Rattle.pdn_schema.specs.Models.{TableModel}
use Rattle.pdn_startup.specs.declared.imports.ImportErr.{ImportErr}
use Rattle.pdn_startup.specs.declared.imports.ImportErr.TheVariants as errors

-- ---- the key

-- a text but for a line feed at its end
abbrev pub digits_of : List ℕ → List ℕ
digits_of text = if nat_lt 0 (length text) && slice_index text (length text - 1) == 10 then take (length text - 1) text else text

-- the 32 bytes of 64 hexadecimal digits, and at most one line feed
abbrev pub key_of : List ℕ → Option (List ℕ)
key_of text = result_ok (decode_sized (digits_of text) 32)

-- ---- the rows

-- the file of a site's rows of a table
abbrev pub file_of_site : Site → TableModel → List ℕ
file_of_site site t = site_text site ++ codes "_" ++ t.name ++ codes ".csv"

-- the files hold this under a site's name for the table, as far as they tell
abbrev pub HasFile : Option (List ℕ → Option (List ℕ)) → Site → TableModel → Option (List ℕ) → Type 0
HasFile files site t content = IfSome files (λ held. held (file_of_site site t) ≡ content)

-- these rows are taken as the table's batch 0, or were kept as it, as far as the site tells
abbrev pub TakesRows : Option (List BatchHeld) → Option (List BatchHeld) → TableModel → List (List Value) → Type 0
TakesRows old new t rows = (IfSome old (λ held. IsAnswer t held 0 rows (Ok New)) × (new ≡ with_batch (batch_held t.name 0 rows) old))
    ⊎ (IfSome old (λ held. IsAnswer t held 0 rows (Ok Again)) × (new ≡ old))

-- a site takes the rows of a table's file, where there is one
abbrev pub TakesFile : Option (List ℕ → Option (List ℕ)) → Site → TableModel → Option (List BatchHeld) → Option (List BatchHeld) → Type 0
TakesFile files site t old new = (HasFile files site t None × (new ≡ old))
    ⊎ ((bytes : List ℕ) × (rows : List (List Value)) × HasFile files site t (Some bytes) × (imported t.columns (records default_config (strip_bom bytes)) ≡ Ok rows) × TakesRows old new t rows)

-- why a site doesn't take rows
abbrev pub IsBound : AddErr → Type 0
IsBound no.Failed = ⊥
IsBound no.Memory = ⊥
IsBound other = Unit {0}

-- bytes give no rows of the table, or rows that the site doesn't take
abbrev pub AreNotTaken : TableModel → List ℕ → Option (List BatchHeld) → Type 0
AreNotTaken t bytes old = ((entry : ℕ) × (cause : ℕ) × (imported t.columns (records default_config (strip_bom bytes)) ≡ Err (At entry cause)))
    ⊎ ((rows : List (List Value)) × (why : AddErr) × (imported t.columns (records default_config (strip_bom bytes)) ≡ Ok rows) × IfSome old (λ held. IsAnswer t held 0 rows (Err why)) × IsBound why)

-- the file is there and its rows aren't taken; or the files or the site failed
abbrev pub RefusesFile : Type 0 → Option (List ℕ → Option (List ℕ)) → Site → TableModel → Option (List BatchHeld) → Type 0
RefusesFile rose files site t old = rose ⊎ ((bytes : List ℕ) × HasFile files site t (Some bytes) × AreNotTaken t bytes old)

-- the files of these tables are taken in order
abbrev pub TakesFiles : Option (List ℕ → Option (List ℕ)) → Site → List TableModel → Option (List BatchHeld) → Option (List BatchHeld) → Type 0
TakesFiles files site [] old new = new ≡ old
TakesFiles files site (t ∷ ts) old new = (mid : Option (List BatchHeld)) × TakesFile files site t old mid × TakesFiles files site ts mid new

-- the file of this name is the first of them that is refused
abbrev pub RefusesFirst : Type 0 → Option (List ℕ → Option (List ℕ)) → Site → List TableModel → Option (List BatchHeld) → List ℕ → Type 0
RefusesFirst rose files site [] old name = ⊥
RefusesFirst rose files site (t ∷ ts) old name = ((name ≡ file_of_site site t) × RefusesFile rose files site t old)
    ⊎ ((mid : Option (List BatchHeld)) × TakesFile files site t old mid × RefusesFirst rose files site ts mid name)

-- ---- what the code's answers stand for

-- want of memory, or a file of which this is said
abbrev pub IsFileOr : (List ℕ → Type 0) → ImportErr → Type 0
IsFileOr P (errors.File name) = P (string_bytes name)
IsFileOr P errors.Memory = Unit {0}

-- whether the rows that bytes give were taken, and why not
abbrev pub TookIf : Bool → Type 0 → TableModel → List ℕ → Option (List BatchHeld) → Option (List BatchHeld) → Type 0
TookIf true rose t bytes old new = (rows : List (List Value)) × (imported t.columns (records default_config (strip_bom bytes)) ≡ Ok rows) × TakesRows old new t rows
TookIf false rose t bytes old new = rose ⊎ AreNotTaken t bytes old
