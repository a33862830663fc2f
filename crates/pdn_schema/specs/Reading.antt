-- Reading a text line by line, with the first fault; and which lines a schema is.
use Rattle.std.specs.Prelude.{◌⊎◌, length, ◌≡◌, ℕ, ◌+◌, List, [], ◌∷◌, ◌++◌, slice_index, Bool, true, false, if◌then◌else◌, ◌==◌, Option, Some, None, Result, Ok, Err}
use Rattle.std.specs.List.{AllByRecursion}
use Rattle.pdn_schema.specs.declared.cause.Cause.{Cause}
use Rattle.pdn_schema.specs.declared.form.Form.{Form}
use Rattle.pdn_schema.specs.declared.form.Form.TheVariants as forms
use Rattle.pdn_schema.specs.declared.schema.Caller.{Caller}
use Rattle.pdn_schema.specs.declared.schema.Column.{Column}
use Rattle.pdn_schema.specs.declared.read.SchemaErr.{SchemaErr}
use Rattle.pdn_schema.specs.declared.read.SchemaErr.TheVariants.{Line, Memory}
use Rattle.pdn_schema.specs.Models.{TableModel, SchemaModel, Part}
use Rattle.pdn_schema.specs.Schemas.{IsSchema}
use Rattle.pdn_schema.specs.Words.{words_of, lines_of}
use Rattle.pdn_schema.specs.Forms.{form_of}
use Rattle.pdn_schema.specs.Causes.{start, holds, all_causes, cause_number, cause_of, after}

-- a line without words, and one whose first word begins with `#`, is passed over
abbrev pub is_passed : List (List ℕ) → Bool
is_passed [] = true
is_passed (w ∷ ws) = slice_index w 0 == 35

-- ---- the grammar: which lines a schema is

abbrev pub caller_form : Caller → Form
caller_form c = forms.Caller c.name c.calls

abbrev pub callers_forms : List Caller → List Form
callers_forms [] = []
callers_forms (c ∷ cs) = caller_form c ∷ callers_forms cs

abbrev pub column_form : Column → Form
column_form c = forms.Column c.name c.kind c.mark c.per

abbrev pub columns_forms : List Column → List Form
columns_forms [] = []
columns_forms (c ∷ cs) = column_form c ∷ columns_forms cs

abbrev pub table_forms : TableModel → List Form
table_forms t = forms.Table t.name t.rows ∷ columns_forms t.columns

abbrev pub tables_forms : List TableModel → List Form
tables_forms [] = []
tables_forms (t ∷ ts) = table_forms t ++ tables_forms ts

-- version, floor, callers, tables, end
abbrev pub forms_of : SchemaModel → List Form
forms_of s = forms.Version 1 ∷ forms.Floor s.floor ∷ callers_forms s.callers ++ (tables_forms s.tables ++ forms.End ∷ [])

-- what the lines say that are not passed over
abbrev pub said : Bool → Form → List Form → List Form
said true f fs = fs
said false f fs = f ∷ fs

abbrev pub forms_in : List (List ℕ) → List Form
forms_in [] = []
forms_in (line ∷ lines) = said (is_passed (words_of line)) (form_of (words_of line)) (forms_in lines)

-- the file says this schema: its lines are those of the schema, but for lines that are passed over, and it is one
pub record Says (bytes : List ℕ) (s : SchemaModel) : Type 0 where
  pub lines : forms_in (lines_of bytes) ≡ forms_of s
  pub fits : IsSchema s

-- what a reader returned is this schema, or memory ran out
abbrev pub Gives : SchemaModel → Result SchemaModel SchemaErr → Type 0
Gives s (Ok x) = x ≡ s
Gives s (Err Memory) = Unit {0}
Gives s (Err (Line n c)) = ⊥

-- ---- the first fault, line by line

abbrev pub NoCause : Part → Form → Type 0
NoCause p f = AllByRecursion (λ c. holds p f c ≡ false) all_causes

-- this cause holds, and none before it
pub record IsLeast (p : Part) (f : Form) (cause : Cause) : Type 0 where
  pub less : List Cause
  pub greater : List Cause
  pub all : all_causes ≡ less ++ cause ∷ greater
  pub none : AllByRecursion (λ c. holds p f c ≡ false) less
  pub here : holds p f cause ≡ true

abbrev pub OneLine : Part → List ℕ → Part → Type 0
OneLine p line q = ((is_passed (words_of line) ≡ true) × (p ≡ q)) ⊎ (NoCause p (form_of (words_of line)) × (after p (form_of (words_of line)) ≡ q))

-- from a part the lines lead to another, each passed over or without a cause
abbrev pub Leads : Part → List (List ℕ) → Part → Type 0
Leads p [] q = p ≡ q
Leads p (line ∷ lines) q = (r : Part) × OneLine p line r × Leads r lines q

-- the line isn't passed over, and this is the number of its least cause
pub record HasCause (p : Part) (line : List ℕ) (number : ℕ) : Type 0 where
  pub stands : is_passed (words_of line) ≡ false
  pub cause : Cause
  pub least : IsLeast p (form_of (words_of line)) cause
  pub is : number ≡ cause_number cause

-- at the line after the last `end` is missing
abbrev pub FaultAt : Part → List (List ℕ) → ℕ → Type 0
FaultAt p [] number = (p.ended ≡ false) × (number ≡ 2)
FaultAt p (line ∷ lines) number = HasCause p line number

-- all lines before line n are without a cause; line n has this one as its least, or there is no such line and `end` is missing
pub record IsFirstFault (lines : List (List ℕ)) (n number : ℕ) : Type 0 where
  pub before : List (List ℕ)
  pub after_it : List (List ℕ)
  pub part : Part
  pub parts : lines ≡ before ++ after_it
  pub line : n ≡ length before + 1
  pub leads : Leads start before part
  pub fault : FaultAt part after_it number

-- an error is Memory, or the first fault
abbrev pub IsFault : List (List ℕ) → SchemaErr → Type 0
IsFault lines Memory = Unit {0}
IsFault lines (Line n number) = IsFirstFault lines n number

abbrev pub FaultOf : {X : Type 0} → List (List ℕ) → Result X SchemaErr → Type 0
FaultOf lines (Ok x) = Unit {0}
FaultOf lines (Err e) = IsFault lines e

-- ---- reading as a function, on which the reader's parts stand

abbrev pub judged : ℕ → Part → Option Cause → Result Part SchemaErr
judged n p None = Ok p
judged n p (Some cause) = Err (Line n (cause_number cause))

unfoldable pub line_read : ℕ → Part → List ℕ → Result Part SchemaErr
line_read n p line = if is_passed (words_of line) then Ok p else judged n (after p (form_of (words_of line))) (cause_of p (form_of (words_of line)))

abbrev pub go_on : Result Part SchemaErr → (Part → Result Part SchemaErr) → Result Part SchemaErr
go_on (Ok p) f = f p
go_on (Err e) f = Err e

unfoldable pub read_lines : ℕ → Part → List (List ℕ) → Result Part SchemaErr
read_lines n p [] = if p.ended then Ok p else Err (Line n 2)
read_lines n p (line ∷ lines) = go_on (line_read n p line) (λ q. read_lines (n + 1) q lines)

abbrev pub read_part : List ℕ → Result Part SchemaErr
read_part bytes = read_lines 1 start (lines_of bytes)

-- what a function returned is what reading gives, unless memory ran out
abbrev pub Fails : {X : Type 0} → SchemaErr → Result X SchemaErr → Type 0
Fails Memory read = Unit {0}
Fails (Line n c) read = read ≡ Err (Line n c)

abbrev pub Reads : {X : Type 0} → Result X SchemaErr → Result X SchemaErr → Type 0
Reads (Ok x) read = read ≡ Ok x
Reads (Err e) read = Fails e read
