-- What is wrong with a line after the lines before it: a predicate a cause.
use Rattle.std.specs.Prelude.{ℕ, List, [], ◌∷◌, ◌++◌, length, Bool, true, false, ◌&&◌, ◌||◌, not, if◌then◌else◌, unwrap_or, nat_lt, nat_le, ◌==◌, Option, Some, None}
use Rattle.pdn_base.specs.declared.marks.Label.{Label}
use Rattle.pdn_base.specs.declared.marks.Label.TheVariants as labels
use Rattle.pdn_schema.specs.declared.cause.Cause.{Cause}
use Rattle.pdn_schema.specs.declared.cause.Cause.TheVariants as causes
use Rattle.pdn_schema.specs.declared.form.Form.{Form}
use Rattle.pdn_schema.specs.declared.form.Form.TheVariants as forms
use Rattle.pdn_schema.specs.declared.schema.Column.{Column}
use Rattle.pdn_schema.specs.Models.{TableModel, SchemaModel, Part}
use Rattle.pdn_schema.specs.Names.{is_among}
use Rattle.pdn_schema.specs.Schemas.{caller_names, column_names, table_names}

abbrev pub start : Part
start = record { begun = false; floor = None; callers = []; done = []; current = None; ended = false }

abbrev pub is_none : {X : Type 0} → Option X → Bool
is_none None = true
is_none (Some x) = false

-- the open table passes the test
abbrev pub in_open : (TableModel → Bool) → Option TableModel → Bool
in_open test None = false
in_open test (Some t) = test t

-- all tables, the open one last
abbrev pub closed : List TableModel → Option TableModel → List TableModel
closed done None = done
closed done (Some t) = done ++ t ∷ []

abbrev pub is_within : ℕ → ℕ → Bool
is_within most n = nat_le 1 n && nat_le n most

-- it has no form; behind `end` no line has one that could stand
abbrev pub no_form : Part → Form → Bool
no_form p forms.Nothing = not p.ended
no_form p f = false

-- first the version, then the floor, then callers, then tables, each with its columns behind it, then `end`
abbrev pub out_of_place : Part → Form → Bool
out_of_place p (forms.Version n) = p.begun
out_of_place p (forms.Floor n) = not p.begun || not (is_none p.floor)
out_of_place p (forms.Caller name calls) = is_none p.floor || not (is_none p.current) || p.ended
out_of_place p (forms.Table name rows) = is_none p.floor || p.ended
out_of_place p (forms.Column name kind mark per) = is_none p.current
out_of_place p forms.End = is_none p.floor || p.ended
out_of_place p forms.Nothing = p.ended

abbrev pub wrong_version : Form → Bool
wrong_version (forms.Version n) = not (n == 1)
wrong_version f = false

-- a floor is 1 to 64, calls are 1 to 65536
abbrev pub count_out : Form → Bool
count_out (forms.Floor n) = not (is_within 64 n)
count_out (forms.Caller name calls) = not (is_within 65536 calls)
count_out f = false

-- rows are 1 to 256
abbrev pub rows_out : Form → Bool
rows_out (forms.Table name rows) = not (is_within 256 rows)
rows_out f = false

-- rows of one value are 1 to 64, and not more than the table's; no line of another column says any
abbrev pub per_wrong : Label → ℕ → Option TableModel → Bool
per_wrong labels.Public per current = not (is_within 64 per) || in_open (λ t. nat_lt t.rows per) current
per_wrong mark per current = not (per == 0)

abbrev pub per_out : Part → Form → Bool
per_out p (forms.Column name kind mark per) = per_wrong mark per p.current
per_out p f = false

-- the name was there before: of a caller, of a table, in its table of a column
abbrev pub name_again : Part → Form → Bool
name_again p (forms.Caller name calls) = is_among (caller_names p.callers) name
name_again p (forms.Table name rows) = is_among (table_names (closed p.done p.current)) name
name_again p (forms.Column name kind mark per) = in_open (λ t. is_among (column_names t.columns) name) p.current
name_again p f = false

-- a ninth caller, table or column
abbrev pub too_many : Part → Form → Bool
too_many p (forms.Caller name calls) = nat_le 8 (length p.callers)
too_many p (forms.Table name rows) = nat_le 8 (length (closed p.done p.current))
too_many p (forms.Column name kind mark per) = in_open (λ t. nat_le 8 (length t.columns)) p.current
too_many p f = false

-- the line ends a table without columns, or is `end` with no table
abbrev pub lacks : Part → Form → Bool
lacks p (forms.Table name rows) = in_open (λ t. length t.columns == 0) p.current
lacks p forms.End = is_none p.current || in_open (λ t. length t.columns == 0) p.current
lacks p f = false

-- the cause holds of a line that says this form, behind these lines
abbrev pub holds : Part → Form → Cause → Bool
holds p f causes.NoForm = no_form p f
holds p f causes.OutOfPlace = out_of_place p f
holds p f causes.Version = wrong_version f
holds p f causes.Count = count_out f
holds p f causes.Rows = rows_out f
holds p f causes.Per = per_out p f
holds p f causes.NameAgain = name_again p f
holds p f causes.TooMany = too_many p f
holds p f causes.Empty = lacks p f

abbrev pub cause_number : Cause → ℕ
cause_number causes.NoForm = 1
cause_number causes.OutOfPlace = 2
cause_number causes.Version = 3
cause_number causes.Count = 4
cause_number causes.Rows = 5
cause_number causes.Per = 6
cause_number causes.NameAgain = 7
cause_number causes.TooMany = 8
cause_number causes.Empty = 9

-- all of them, least first
abbrev pub all_causes : List Cause
all_causes = causes.NoForm ∷ causes.OutOfPlace ∷ causes.Version ∷ causes.Count ∷ causes.Rows ∷ causes.Per ∷ causes.NameAgain ∷ causes.TooMany ∷ causes.Empty ∷ []

abbrev pub first_of : (Cause → Bool) → List Cause → Option Cause
first_of test [] = None
first_of test (c ∷ cs) = if test c then Some c else first_of test cs

-- the least cause that holds
unfoldable pub cause_of : Part → Form → Option Cause
cause_of p f = first_of (holds p f) all_causes

-- ---- what a line with no cause adds

abbrev pub with_column : Option TableModel → Column → Option TableModel
with_column None c = None
with_column (Some t) c = Some (record { name = t.name; rows = t.rows; columns = t.columns ++ c ∷ [] })

abbrev pub after : Part → Form → Part
after p (forms.Version n) = record { begun = true; floor = p.floor; callers = p.callers; done = p.done; current = p.current; ended = p.ended }
after p (forms.Floor n) = record { begun = p.begun; floor = Some n; callers = p.callers; done = p.done; current = p.current; ended = p.ended }
after p (forms.Caller name calls) = record { begun = p.begun; floor = p.floor; callers = p.callers ++ record { name = name; calls = calls } ∷ []; done = p.done; current = p.current; ended = p.ended }
after p (forms.Table name rows) = record { begun = p.begun; floor = p.floor; callers = p.callers; done = closed p.done p.current; current = Some (record { name = name; rows = rows; columns = [] }); ended = p.ended }
after p (forms.Column name kind mark per) = record { begun = p.begun; floor = p.floor; callers = p.callers; done = p.done; current = with_column p.current (record { name = name; kind = kind; mark = mark; per = per }); ended = p.ended }
after p forms.End = record { begun = p.begun; floor = p.floor; callers = p.callers; done = closed p.done p.current; current = None; ended = true }
after p forms.Nothing = p

-- the schema of the lines
abbrev pub schema_of : Part → SchemaModel
schema_of p = record { floor = unwrap_or p.floor 0; callers = p.callers; tables = p.done }
