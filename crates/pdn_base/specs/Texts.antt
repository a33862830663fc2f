-- What is printed, as bytes.
use Rattle.std.specs.Prelude.{ℕ, List, [], ◌∷◌, ◌++◌, Option, None, Some, codes, decimal}
use Rattle.pdn_base.specs.Statuses.{code_of}
use Rattle.pdn_base.specs.declared.status.Status.{Status}
use Rattle.pdn_base.specs.declared.status.Status.TheVariants.{Done, Words, Schema, Sql, Plan, Forbidden, TooLarge, BadRows, NoFile, Unavailable, TicketsSpent, Memory, Csv, BatchDiffers, OverBound, Disagree}
use Rattle.pdn_base.specs.declared.status.Who.{Who}
use Rattle.pdn_base.specs.declared.status.Who.TheVariants.{Files, SiteA, SiteB, Desk, Sink}
use Rattle.pdn_base.specs.declared.site.Site.{Site}
use Rattle.pdn_base.specs.declared.site.Site.TheVariants.{A, B}
use Rattle.pdn_base.specs.declared.marks.Label.{Label}
use Rattle.pdn_base.specs.declared.marks.Label.TheVariants.{Public, Protected, Private}
use Rattle.pdn_base.specs.declared.rows_err.RowsErr.{RowsErr}
use Rattle.pdn_base.specs.declared.rows_err.RowsErr.TheVariants.{TooMany, PerValue, WrongType}

-- a text and a line feed
abbrev pub line : List ℕ → List ℕ
line text = text ++ 10 ∷ []

abbrev pub site_text : Site → List ℕ
site_text A = codes "a"
site_text B = codes "b"

abbrev pub label_text : Label → List ℕ
label_text Public = codes "public"
label_text Protected = codes "protected"
label_text Private = codes "private"

abbrev pub who_text : Who → List ℕ
who_text Files = codes "files"
who_text SiteA = codes "site a"
who_text SiteB = codes "site b"
who_text Desk = codes "desk"
who_text Sink = codes "sink"

-- why rows of a table are refused; the column that the cause speaks of has this name
abbrev pub rows_text : List ℕ → RowsErr → List ℕ
rows_text column TooMany = codes "rows"
rows_text column (PerValue number) = codes "per " ++ column
rows_text column (WrongType row number) = codes "type " ++ decimal row ++ codes " " ++ column

-- a blank and the name, or nothing where the name is empty
abbrev pub after_blank : List ℕ → List ℕ
after_blank [] = []
after_blank (byte ∷ bytes) = codes " " ++ byte ∷ bytes

abbrev pub bound_text : List ℕ → Option ℕ → List ℕ
bound_text column None = codes "rows"
bound_text column (Some number) = codes "per " ++ column

-- What stands behind the number of a refusal. The table and the column that it speaks of have these names.
abbrev pub detail : List ℕ → List ℕ → Status → List ℕ
detail table column Words = codes "words"
detail table column (Schema line cause) = codes "line " ++ decimal line ++ codes " cause " ++ decimal cause
detail table column (Sql place kind) = codes "place " ++ decimal place ++ codes " kind " ++ decimal kind
detail table column (Plan kind name) = codes "kind " ++ decimal kind ++ after_blank name
detail table column (Forbidden name label) = name ++ codes " " ++ label_text label
detail table column (TooLarge limit unit) = codes "limit " ++ decimal limit ++ codes " unit " ++ decimal unit
detail table column (BadRows site number cause) = site_text site ++ codes " " ++ table ++ codes " " ++ rows_text column cause
detail table column (NoFile name) = name
detail table column (Unavailable who) = who_text who
detail table column TicketsSpent = codes "tickets"
detail table column (Csv entry cause) = codes "record " ++ decimal entry ++ codes " cause " ++ decimal cause
detail table column (BatchDiffers row) = codes "row " ++ decimal row
detail table column (OverBound number) = bound_text column number
detail table column (Disagree number other) = table ++ codes "." ++ column
detail table column Done = []
detail table column Memory = []

-- the line of a refusal
abbrev pub refusal : List ℕ → List ℕ → Status → List ℕ
refusal table column status = line (codes "refused " ++ decimal (code_of status) ++ codes " " ++ detail table column status)
