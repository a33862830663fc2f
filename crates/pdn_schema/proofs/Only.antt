-- A schema that a text says is read.
use Rattle.std.proofs.Common.{◌≡◌, ℕ, ◌+◌, ◌≤◌, ◌<◌, Bool, true, false, cond, eqb, List, [], ◌∷◌, ◌++◌, length, map, Option, Some, None, Result, Ok, Err, refl, sym, ap, ◌∙◌, append_assoc, length-append, arith}
use Rattle.std.specs.Prelude.{not}
use Rattle.std.specs.Str.{bytes_eq}
use Rattle.std.specs.List.{AllByRecursion, IsDistinct}
use Rattle.std.proofs.lemmas.Bool.{le-leb, lt-leb, le-ltb, ne_eqb}
use Rattle.std.proofs.lemmas.Cmp.{nat_list_eq_equiv}
use Rattle.std.proofs.lemmas.List.{append-nil, map-append}
use Rattle.std.proofs.lemmas.Map.Keys.{IsDistinct-head, IsDistinct-tail}
use Rattle.pdn_base.specs.declared.marks.Label.{Label}
use Rattle.pdn_base.specs.declared.marks.Label.TheVariants as labels
use Rattle.pdn_schema.specs.declared.cause.Cause.{Cause}
use Rattle.pdn_schema.specs.declared.form.Form.{Form}
use Rattle.pdn_schema.specs.declared.form.Form.TheVariants as forms
use Rattle.pdn_schema.specs.declared.schema.Caller.{Caller}
use Rattle.pdn_schema.specs.declared.schema.Column.{Column}
use Rattle.pdn_schema.specs.declared.read.SchemaErr.{SchemaErr}
use Rattle.pdn_schema.specs.declared.read.SchemaErr.TheVariants.{Line, Memory}
use Rattle.pdn_schema.specs.Models.{TableModel, SchemaModel, Part}
use Rattle.pdn_schema.specs.Words.{words_of, lines_of}
use Rattle.pdn_schema.specs.Names.{is_among}
use Rattle.pdn_schema.specs.Forms.{form_of}
use Rattle.pdn_schema.specs.Causes.{start, is_within, per_wrong, holds, all_causes, first_of, cause_of, after, schema_of}
use Rattle.pdn_schema.specs.Schemas.{caller_names, column_names, table_names, IsCaller, PerFits, IsColumn, IsTable, IsTables, IsSchema}
use Rattle.pdn_schema.specs.Reading.{NoCause, is_passed, judged, line_read, go_on, read_lines, read_part, callers_forms, columns_forms, table_forms, tables_forms, forms_of, said, forms_in, Says, Fails, Gives}

-- ---- reading forms

abbrev passes : Option Cause → Option Part → Option Part
passes None r = r
passes (Some c) r = None

abbrev forms_read : Part → List Form → Option Part
forms_read p [] = cond p.ended (Some p) None
forms_read p (f ∷ fs) = passes (cause_of p f) (forms_read (after p f) fs)

from_judged : (n : ℕ) (p q : Part) (o : Option Cause) (r : Option Part) (f : Part → Result Part SchemaErr) → passes o r ≡ Some q → (r ≡ Some q → f p ≡ Ok q) → go_on (judged n p o) f ≡ Ok q
from_judged n p q None r f e h = h e
from_judged n p q (Some c) r f e h = absurd cc

from_end : (n : ℕ) (p q : Part) (b : Bool) → cond b (Some p) None ≡ Some q → cond b (Ok p) (Err (Line n 2)) ≡ Ok q
from_end n p q true e = let is : p ≡ q = cc in ap (λ (x : Part). Ok x) is
from_end n p q false e = absurd cc

from_line : (lines : List (List ℕ)) (n : ℕ) (p q : Part) (f : Form) (b : Bool) → forms_read p (said b f (forms_in lines)) ≡ Some q → ((r : Part) → forms_read r (forms_in lines) ≡ Some q → read_lines (n + 1) r lines ≡ Ok q)
    → go_on (cond b (Ok p) (judged n (after p f) (cause_of p f))) (λ r. read_lines (n + 1) r lines) ≡ Ok q
from_line lines n p q f true e h = h p e
from_line lines n p q f false e h = from_judged n (after p f) q (cause_of p f) (forms_read (after p f) (forms_in lines)) (λ r. read_lines (n + 1) r lines) e (h (after p f))

from_forms : (lines : List (List ℕ)) (n : ℕ) (p q : Part) → forms_read p (forms_in lines) ≡ Some q → read_lines n p lines ≡ Ok q
unfolding read_lines line_read
from_forms [] n p q e = from_end n p q p.ended e
from_forms (line ∷ lines) n p q e = from_line lines n p q (form_of (words_of line)) (is_passed (words_of line)) e (λ r h. from_forms lines (n + 1) r q h)

-- ---- a form without a cause is passed

none_first : (test : Cause → Bool) (cs : List Cause) → AllByRecursion (λ c. test c ≡ false) cs → first_of test cs ≡ None
none_first test [] all = refl
none_first test (c ∷ cs) all = rw all.0 (none_first test cs all.1)

goes : (p : Part) (f : Form) (fs : List Form) → NoCause p f → forms_read p (f ∷ fs) ≡ forms_read (after p f) fs
unfolding cause_of
goes p f fs none = rw (none_first (holds p f) all_causes none) refl

-- ---- tests

within_true : (most n : ℕ) → 1 ≤ n → n ≤ most → not (is_within most n) ≡ false
within_true most n a b = rw (le-leb 1 n a, le-leb n most b) refl

in_middle : {X : Type 0} (P : X → Type 0) (xs : List X) (x : X) (ys : List X) → AllByRecursion P (xs ++ x ∷ ys) → P x
in_middle P [] x ys all = all.0
in_middle P (z ∷ xs) x ys all = in_middle P xs x ys all.1

none_among : (names : List (List ℕ)) (name : List ℕ) (rest : List (List ℕ)) → IsDistinct bytes_eq (names ++ name ∷ rest) → is_among names name ≡ false
none_among [] name rest d = refl
none_among (n ∷ names) name rest d =
    let first : bytes_eq n name ≡ false = in_middle (λ m. bytes_eq n m ≡ false) names name rest (IsDistinct-head bytes_eq n (names ++ name ∷ rest) d) in
    rw (nat_list_eq_equiv.symm name n, first) (none_among names name rest (IsDistinct-tail bytes_eq n (names ++ name ∷ rest) d))

-- none of the names before is this one
new_name : {X : Type 0} (name_of : X → List ℕ) (before : List X) (x : X) (rest : List X) → IsDistinct bytes_eq (map name_of (before ++ x ∷ rest)) → is_among (map name_of before) (name_of x) ≡ false
new_name name_of before x rest d = none_among (map name_of before) (name_of x) (map name_of rest) (rw (map-append name_of before (x ∷ rest)) at d)

-- ---- callers

abbrev with_callers : ℕ → List Caller → Part
with_callers floor callers = record { begun = true; floor = Some floor; callers = callers; done = []; current = None; ended = false }

callers_pass : (floor : ℕ) (before rest : List Caller) (fs : List Form) → length (before ++ rest) ≤ 8 → AllByRecursion IsCaller rest → IsDistinct bytes_eq (caller_names (before ++ rest))
    → forms_read (with_callers floor before) (callers_forms rest ++ fs) ≡ forms_read (with_callers floor (before ++ rest)) fs
callers_pass floor before [] fs few each distinct = rw (append-nil before) refl
callers_pass floor before (c ∷ rest) fs few each distinct =
    let more : (before ++ c ∷ []) ++ rest ≡ before ++ c ∷ rest = append_assoc before (c ∷ []) rest in
    let room : length before < 8 = omega (arith, few, length-append before (c ∷ rest)) in
    let count = within_true 65536 c.calls each.0.least each.0.most in
    let name = new_name (λ (d : Caller). d.name) before c rest distinct in
    let none : NoCause (with_callers floor before) (forms.Caller c.name c.calls) = (refl, (refl, (refl, (count, (refl, (refl, (name, (lt-leb 8 (length before) room, (refl, tt))))))))) in
    goes (with_callers floor before) (forms.Caller c.name c.calls) (callers_forms rest ++ fs) none
    ∙ callers_pass floor (before ++ c ∷ []) rest fs (rw more few) each.1 (rw more distinct)
    ∙ ap (λ (cs : List Caller). forms_read (with_callers floor cs) fs) more

-- ---- columns

abbrev with_tables : ℕ → List Caller → List TableModel → TableModel → Part
with_tables floor callers done current = record { begun = true; floor = Some floor; callers = callers; done = done; current = Some current; ended = false }

abbrev headed : List ℕ → ℕ → List Column → TableModel
headed name rows columns = record { name = name; rows = rows; columns = columns }

per_right : (mark : Label) (per : ℕ) (t : TableModel) → PerFits mark t.rows per → per_wrong mark per (Some t) ≡ false
per_right labels.Public per t is = rw (within_true 64 per is.0 is.1, le-ltb t.rows per is.2) refl
per_right labels.Protected per t is = rw is refl
per_right labels.Private per t is = rw is refl

columns_pass : (floor : ℕ) (callers : List Caller) (done : List TableModel) (name : List ℕ) (rows : ℕ) (before rest : List Column) (fs : List Form) → length (before ++ rest) ≤ 8 → AllByRecursion (IsColumn rows) rest → IsDistinct bytes_eq (column_names (before ++ rest))
    → forms_read (with_tables floor callers done (headed name rows before)) (columns_forms rest ++ fs) ≡ forms_read (with_tables floor callers done (headed name rows (before ++ rest))) fs
columns_pass floor callers done name rows before [] fs few each distinct = rw (append-nil before) refl
columns_pass floor callers done name rows before (c ∷ rest) fs few each distinct =
    let more : (before ++ c ∷ []) ++ rest ≡ before ++ c ∷ rest = append_assoc before (c ∷ []) rest in
    let room : length before < 8 = omega (arith, few, length-append before (c ∷ rest)) in
    let now = with_tables floor callers done (headed name rows before) in
    let per = per_right c.mark c.per (headed name rows before) each.0.per in
    let new = new_name (λ (d : Column). d.name) before c rest distinct in
    let none : NoCause now (forms.Column c.name c.kind c.mark c.per) = (refl, (refl, (refl, (refl, (refl, (per, (new, (lt-leb 8 (length before) room, (refl, tt))))))))) in
    goes now (forms.Column c.name c.kind c.mark c.per) (columns_forms rest ++ fs) none
    ∙ columns_pass floor callers done name rows (before ++ c ∷ []) rest fs (rw more few) each.1 (rw more distinct)
    ∙ ap (λ (cs : List Column). forms_read (with_tables floor callers done (headed name rows cs)) fs) more

-- ---- tables

abbrev finished : ℕ → List Caller → List TableModel → Part
finished floor callers tables = record { begun = true; floor = Some floor; callers = callers; done = tables; current = None; ended = true }

some_columns : (n : ℕ) → 1 ≤ n → eqb n 0 ≡ false
some_columns n le = ne_eqb n 0 (λ e. omega (arith, le, e))

-- a table's columns follow its head
table_pass : (floor : ℕ) (callers : List Caller) (done : List TableModel) (t : TableModel) (fs : List Form) → IsTable t
    → forms_read (with_tables floor callers done (headed t.name t.rows [])) (columns_forms t.columns ++ fs) ≡ forms_read (with_tables floor callers done t) fs
table_pass floor callers done t fs is = columns_pass floor callers done t.name t.rows [] t.columns fs is.head.few is.head.each is.head.distinct

tables_pass : (floor : ℕ) (callers : List Caller) (done : List TableModel) (current : TableModel) (rest : List TableModel) → length (done ++ current ∷ rest) ≤ 8 → 1 ≤ length current.columns → AllByRecursion IsTable rest → IsDistinct bytes_eq (table_names (done ++ current ∷ rest))
    → forms_read (with_tables floor callers done current) (tables_forms rest ++ forms.End ∷ []) ≡ Some (finished floor callers (done ++ current ∷ rest))
tables_pass floor callers done current [] few some each distinct =
    let now = with_tables floor callers done current in
    let none : NoCause now forms.End = (refl, (refl, (refl, (refl, (refl, (refl, (refl, (refl, (some_columns (length current.columns) some, tt))))))))) in
    goes now forms.End [] none
tables_pass floor callers done current (t ∷ rest) few some each distinct =
    let now = with_tables floor callers done current in
    let all = done ++ current ∷ [] in
    let more : all ++ t ∷ rest ≡ done ++ current ∷ t ∷ rest = append_assoc done (current ∷ []) (t ∷ rest) in
    let rows = within_true 256 t.rows each.0.head.least each.0.head.most in
    let new = new_name (λ (u : TableModel). u.name) all t rest (rw more distinct) in
    let room : length all < 8 = omega (arith, few, length-append all (t ∷ rest), ap length more) in
    let none : NoCause now (forms.Table t.name t.rows) = (refl, (refl, (refl, (refl, (rows, (refl, (new, (lt-leb 8 (length all) room, (some_columns (length current.columns) some, tt))))))))) in
    let rest_forms = tables_forms rest ++ forms.End ∷ [] in
    ap (forms_read now) (append_assoc (table_forms t) (tables_forms rest) (forms.End ∷ []))
    ∙ goes now (forms.Table t.name t.rows) (columns_forms t.columns ++ rest_forms) none
    ∙ table_pass floor callers all t rest_forms each.0
    ∙ tables_pass floor callers all t rest (rw more few) each.0.some each.1 (rw more distinct)
    ∙ ap (λ (ts : List TableModel). Some (finished floor callers ts)) more

first_table : (floor : ℕ) (callers : List Caller) (tables : List TableModel) → IsTables tables → 1 ≤ length tables
    → forms_read (with_callers floor callers) (tables_forms tables ++ forms.End ∷ []) ≡ Some (finished floor callers tables)
first_table floor callers [] is some = absurd (omega (arith, some))
first_table floor callers (t ∷ rest) is some =
    let now = with_callers floor callers in
    let rows = within_true 256 t.rows is.each.0.head.least is.each.0.head.most in
    let none : NoCause now (forms.Table t.name t.rows) = (refl, (refl, (refl, (refl, (rows, (refl, (refl, (refl, (refl, tt))))))))) in
    let rest_forms = tables_forms rest ++ forms.End ∷ [] in
    ap (forms_read now) (append_assoc (table_forms t) (tables_forms rest) (forms.End ∷ []))
    ∙ goes now (forms.Table t.name t.rows) (columns_forms t.columns ++ rest_forms) none
    ∙ table_pass floor callers [] t rest_forms is.each.0
    ∙ tables_pass floor callers [] t rest is.few is.each.0.some is.each.1 is.distinct

-- ---- the whole

schema_passes : (s : SchemaModel) → IsSchema s → forms_read start (forms_of s) ≡ Some (finished s.floor s.callers s.tables)
schema_passes s is =
    let begun : Part = record { begun = true; floor = None; callers = []; done = []; current = None; ended = false } in
    let tables = tables_forms s.tables ++ forms.End ∷ [] in
    let floor : NoCause begun (forms.Floor s.floor) = (refl, (refl, (refl, (within_true 64 s.floor is.floor.least is.floor.most, (refl, (refl, (refl, (refl, (refl, tt))))))))) in
    goes start (forms.Version 1) (forms.Floor s.floor ∷ callers_forms s.callers ++ tables) (refl, (refl, (refl, (refl, (refl, (refl, (refl, (refl, (refl, tt)))))))))
    ∙ goes begun (forms.Floor s.floor) (callers_forms s.callers ++ tables) floor
    ∙ callers_pass s.floor [] s.callers tables is.callers.few is.callers.each is.callers.distinct
    ∙ first_table s.floor s.callers s.tables is.tables is.some

pub says_read : (bytes : List ℕ) (s : SchemaModel) → Says bytes s → read_part bytes ≡ Ok (finished s.floor s.callers s.tables)
says_read bytes s h = from_forms (lines_of bytes) 1 start (finished s.floor s.callers s.tables) (ap (forms_read start) h.lines ∙ schema_passes s h.fits)

-- what was read is the schema that the text says
pub same_schema : (bytes : List ℕ) (s : SchemaModel) (q : Part) → Says bytes s → read_part bytes ≡ Ok q → schema_of q ≡ s
same_schema bytes s q h e =
    let both : Ok q ≡ Ok (finished s.floor s.callers s.tables) = sym e ∙ says_read bytes s h in
    let is : q ≡ finished s.floor s.callers s.tables = cc in
    rw is refl

pub only_memory : (bytes : List ℕ) (s : SchemaModel) (e : SchemaErr) → Says bytes s → Fails e (read_part bytes) → Gives s (Err e)
only_memory bytes s Memory h fails = tt
only_memory bytes s (Line n c) h fails =
    let both : Err (Line n c) ≡ Ok (finished s.floor s.callers s.tables) = sym fails ∙ says_read bytes s h in
    absurd cc
