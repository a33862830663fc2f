-- The records of a text one by one, and what their rows are.
use Rattle.std.proofs.Common.{◌≡◌, ℕ, suc, ◌+◌, ◌<◌, ◌≤◌, Bool, true, false, List, [], ◌∷◌, ◌++◌, length, drop, get_or, Some, None, Ok, Err, refl, sym, ap, ap₂, subst, ◌∙◌, arith, inl, inr}
use Rattle.std.specs.Prelude.{Option, Result, ◌&&◌, ◌==◌, option_map, if◌then◌else◌, map}
use Rattle.std.specs.Str.{bytes_eq}
use Rattle.std.specs.List.{All}
use Rattle.std.proofs.lemmas.Bool.{cases_lt}
use Rattle.std.proofs.lemmas.List.{append_assoc, append-nil, drop_more, drop_all, length-map, get_or-map}
use Rattle.std.proofs.lemmas.List.Elements.{All-nil, All-cons}
use Rattle.csv.proofs.RecordFacts.{field-none, field-there, field-get}
use Rattle.csv.specs.Records.{Row, field_at, fields_of}
use Rattle.pdn_base.specs.declared.marks.Kind.{Kind}
use Rattle.pdn_base.specs.declared.marks.Kind.TheVariants as kinds
use Rattle.pdn_base.specs.declared.value.Value.{Value}
use Rattle.pdn_base.specs.declared.value.Value.TheVariants as value
use Rattle.pdn_base.specs.Codes.{read_code}
use Rattle.pdn_base.specs.Numbers.{number_of}
use Rattle.pdn_schema.specs.declared.schema.Column.{Column}
use Rattle.pdn_schema.specs.Rows.{value_kind, HasKinds}
use Rattle.pdn_keeper.specs.declared.cause.Cause.{Cause}
use Rattle.pdn_keeper.specs.declared.cause.Cause.TheVariants as causes
use Rattle.pdn_keeper.specs.declared.cause.CsvErr.{CsvErr}
use Rattle.pdn_keeper.specs.declared.cause.CsvErr.TheVariants.{At}
use Rattle.pdn_keeper.specs.Import.{cause_number, value_in, before, row_in, or_cause, row_or_cause, is_header, then_rows, rows_after}

some_none : {X : Type 0} {x : X} → Some x ≡ None → ⊥
some_none e = absurd cc

-- ---- fields

pub field_next : (fields : List (List ℕ)) (i : ℕ) (f : List ℕ) → field_at fields i ≡ Some f → drop i fields ≡ f ∷ drop (i + 1) fields
field_next fields i f e =
    elim (cases_lt i (length fields)) [
      | inl lt ↦ drop_more fields i [] lt ∙ ap (λ (x : List ℕ). x ∷ drop (i + 1) fields) (field-get fields i f e)
      | inr past ↦ absurd (some_none (sym e ∙ field-none fields i past))
    ]

pub field_none : (fields : List (List ℕ)) (i : ℕ) → field_at fields i ≡ None → drop i fields ≡ []
field_none fields i e =
    elim (cases_lt i (length fields)) [
      | inl lt ↦ absurd (field-there fields i lt e)
      | inr past ↦ drop_all i fields past
    ]

-- ---- the header

pub header_next : (columns : List Column) (fields : List (List ℕ)) (i : ℕ) (c : Column) (f : List ℕ) → i < length columns → c ≡ get_or columns i c → field_at fields i ≡ Some f
    → is_header (drop i columns) (drop i fields) ≡ bytes_eq c.name f && is_header (drop (i + 1) columns) (drop (i + 1) fields)
header_next columns fields i c f lt is there =
    ap₂ is_header (drop_more columns i c lt) (field_next fields i f there) ∙ ap (λ (k : Column). bytes_eq k.name f && is_header (drop (i + 1) columns) (drop (i + 1) fields)) (sym is)

pub header_missing : (columns : List Column) (fields : List (List ℕ)) (i : ℕ) (c : Column) → i < length columns → c ≡ get_or columns i c → field_at fields i ≡ None → is_header (drop i columns) (drop i fields) ≡ false
header_missing columns fields i c lt is none = ap₂ is_header (drop_more columns i c lt) (field_none fields i none)

pub header_same : (columns : List Column) (fields : List (List ℕ)) (i : ℕ) (c : Column) (f : List ℕ) → i < length columns → c ≡ get_or columns i c → field_at fields i ≡ Some f → bytes_eq c.name f ≡ true
    → is_header columns fields ≡ is_header (drop i columns) (drop i fields) → is_header columns fields ≡ is_header (drop (i + 1) columns) (drop (i + 1) fields)
header_same columns fields i c f lt is there same so_far =
    so_far ∙ header_next columns fields i c f lt is there ∙ ap (λ (b : Bool). b && is_header (drop (i + 1) columns) (drop (i + 1) fields)) same

pub header_other : (columns : List Column) (fields : List (List ℕ)) (i : ℕ) (c : Column) (f : List ℕ) → i < length columns → c ≡ get_or columns i c → field_at fields i ≡ Some f → bytes_eq c.name f ≡ false
    → is_header columns fields ≡ is_header (drop i columns) (drop i fields) → false ≡ is_header columns fields
header_other columns fields i c f lt is there other so_far =
    sym (so_far ∙ header_next columns fields i c f lt is there ∙ ap (λ (b : Bool). b && is_header (drop (i + 1) columns) (drop (i + 1) fields)) other)

-- a header has a field for each column
one_wider : (b rest : Bool) (m n : ℕ) → (rest ≡ true → m ≡ n) → (b && rest) ≡ true → suc m ≡ suc n
one_wider true rest m n wide e = ap suc (wide e)
one_wider false rest m n wide e = absurd cc

header_width : (columns : List Column) (fields : List (List ℕ)) → is_header columns fields ≡ true → length fields ≡ length columns
header_width [] [] h = refl
header_width [] (f ∷ fields) h = absurd cc
header_width (c ∷ columns) [] h = absurd cc
header_width (c ∷ columns) (f ∷ fields) h = one_wider (bytes_eq c.name f) (is_header columns fields) (length fields) (length columns) (header_width columns fields) h

is_false : (b : Bool) → (b ≡ true → ⊥) → false ≡ b
is_false true other = absurd (other refl)
is_false false other = refl

pub header_narrow : (columns : List Column) (fields : List (List ℕ)) → (length fields ≡ length columns → ⊥) → false ≡ is_header columns fields
header_narrow columns fields other = is_false (is_header columns fields) (λ h. other (header_width columns fields h))

-- ---- a row

-- these values, and then the others, where there are such
abbrev pub with_front : {X : Type 0} → List X → Option (List X) → Option (List X)
with_front xs rest = option_map (λ more. xs ++ more) rest

pub front_none : {X : Type 0} (rest : Option (List X)) → rest ≡ with_front [] rest
front_none None = refl
front_none (Some xs) = refl

front_value : (vs : List Value) (v : Value) (rest : Option (List Value)) → with_front vs (before (Some v) rest) ≡ with_front (vs ++ v ∷ []) rest
front_value vs v None = refl
front_value vs v (Some more) = ap (λ (x : List Value). Some x) (sym (append_assoc vs (v ∷ []) more))

row_step : (columns : List Column) (fields : List (List ℕ)) (i : ℕ) (c : Column) (f : List ℕ) → i < length columns → c ≡ get_or columns i c → field_at fields i ≡ Some f
    → row_in (drop i columns) (drop i fields) ≡ before (value_in c.kind f) (row_in (drop (i + 1) columns) (drop (i + 1) fields))
row_step columns fields i c f lt is there =
    ap₂ row_in (drop_more columns i c lt) (field_next fields i f there) ∙ ap (λ (k : Column). before (value_in k.kind f) (row_in (drop (i + 1) columns) (drop (i + 1) fields))) (sym is)

pub row_next : (columns : List Column) (fields : List (List ℕ)) (i : ℕ) (c : Column) (f : List ℕ) (vs : List Value) (v : Value) → i < length columns → c ≡ get_or columns i c → field_at fields i ≡ Some f → value_in c.kind f ≡ Some v
    → row_in columns fields ≡ with_front vs (row_in (drop i columns) (drop i fields)) → row_in columns fields ≡ with_front (vs ++ v ∷ []) (row_in (drop (i + 1) columns) (drop (i + 1) fields))
row_next columns fields i c f vs v lt is there spells so_far =
    let rest = row_in (drop (i + 1) columns) (drop (i + 1) fields) in
    so_far ∙ ap (with_front vs) (row_step columns fields i c f lt is there ∙ ap (λ (o : Option Value). before o rest) spells) ∙ front_value vs v rest

pub row_bad : (columns : List Column) (fields : List (List ℕ)) (i : ℕ) (c : Column) (f : List ℕ) (vs : List Value) → i < length columns → c ≡ get_or columns i c → field_at fields i ≡ Some f → value_in c.kind f ≡ None
    → row_in columns fields ≡ with_front vs (row_in (drop i columns) (drop i fields)) → row_in columns fields ≡ None
row_bad columns fields i c f vs lt is there spells so_far =
    so_far ∙ ap (with_front vs) (row_step columns fields i c f lt is there ∙ ap (λ (o : Option Value). before o (row_in (drop (i + 1) columns) (drop (i + 1) fields))) spells)

pub row_missing : (columns : List Column) (fields : List (List ℕ)) (i : ℕ) (c : Column) (vs : List Value) → i < length columns → c ≡ get_or columns i c → field_at fields i ≡ None
    → row_in columns fields ≡ with_front vs (row_in (drop i columns) (drop i fields)) → row_in columns fields ≡ None
row_missing columns fields i c vs lt is none so_far =
    so_far ∙ ap (with_front vs) (ap₂ row_in (drop_more columns i c lt) (field_none fields i none))

pub row_done : (columns : List Column) (fields : List (List ℕ)) (i : ℕ) (vs : List Value) → length columns ≤ i
    → row_in columns fields ≡ with_front vs (row_in (drop i columns) (drop i fields)) → row_in columns fields ≡ Some vs
row_done columns fields i vs le so_far =
    so_far ∙ ap (λ (cs : List Column). with_front vs (row_in cs (drop i fields))) (drop_all i columns le) ∙ ap (λ (x : List Value). Some x) (append-nil vs)

-- ---- rows

abbrev pub with_rows : List (List Value) → Result (List (List Value)) CsvErr → Result (List (List Value)) CsvErr
with_rows rows (Ok more) = Ok (rows ++ more)
with_rows rows (Err e) = Err e

pub rows_none : (rest : Result (List (List Value)) CsvErr) → rest ≡ with_rows [] rest
rows_none (Ok rows) = refl
rows_none (Err e) = refl

then_row : (rows : List (List Value)) (entry : ℕ) (row : List Value) (rest : Result (List (List Value)) CsvErr) → with_rows rows (then_rows entry (Ok row) rest) ≡ with_rows (rows ++ row ∷ []) rest
then_row rows entry row (Err e) = refl
then_row rows entry row (Ok more) = ap (λ (x : List (List Value)). Ok x) (sym (append_assoc rows (row ∷ []) more))

entry_next : (entries : List Row) (i : ℕ) (r : Row) → i < length entries → r ≡ get_or entries i r → drop i (map fields_of entries) ≡ fields_of r ∷ drop (i + 1) (map fields_of entries)
entry_next entries i r lt is =
    drop_more (map fields_of entries) i (fields_of r) (omega (arith, lt, length-map entries fields_of))
    ∙ ap (λ (x : List (List ℕ)). x ∷ drop (i + 1) (map fields_of entries)) (get_or-map fields_of entries i r (fields_of r) lt ∙ ap fields_of (sym is))

rows_step : (columns : List Column) (entries : List Row) (i : ℕ) (r : Row) → i < length entries → r ≡ get_or entries i r
    → rows_after columns (i + 1) (drop i (map fields_of entries)) ≡ then_rows (i + 1) (row_or_cause columns (fields_of r)) (rows_after columns (i + 1 + 1) (drop (i + 1) (map fields_of entries)))
rows_step columns entries i r lt is = ap (rows_after columns (i + 1)) (entry_next entries i r lt is)

pub rows_next : (columns : List Column) (entries : List Row) (i : ℕ) (r : Row) (rows : List (List Value)) (row : List Value) → i < length entries → r ≡ get_or entries i r → row_or_cause columns (fields_of r) ≡ Ok row
    → rows_after columns 1 (map fields_of entries) ≡ with_rows rows (rows_after columns (i + 1) (drop i (map fields_of entries)))
    → rows_after columns 1 (map fields_of entries) ≡ with_rows (rows ++ row ∷ []) (rows_after columns (i + 1 + 1) (drop (i + 1) (map fields_of entries)))
rows_next columns entries i r rows row lt is gives so_far =
    let rest = rows_after columns (i + 1 + 1) (drop (i + 1) (map fields_of entries)) in
    so_far ∙ ap (with_rows rows) (rows_step columns entries i r lt is ∙ ap (λ (o : Result (List Value) Cause). then_rows (i + 1) o rest) gives) ∙ then_row rows (i + 1) row rest

pub rows_refused : (columns : List Column) (entries : List Row) (i : ℕ) (r : Row) (rows : List (List Value)) (cause : Cause) → i < length entries → r ≡ get_or entries i r → row_or_cause columns (fields_of r) ≡ Err cause
    → rows_after columns 1 (map fields_of entries) ≡ with_rows rows (rows_after columns (i + 1) (drop i (map fields_of entries)))
    → rows_after columns 1 (map fields_of entries) ≡ Err (At (i + 1) (cause_number cause))
rows_refused columns entries i r rows cause lt is gives so_far =
    let rest = rows_after columns (i + 1 + 1) (drop (i + 1) (map fields_of entries)) in
    so_far ∙ ap (with_rows rows) (rows_step columns entries i r lt is ∙ ap (λ (o : Result (List Value) Cause). then_rows (i + 1) o rest) gives)

pub rows_done : (columns : List Column) (entries : List Row) (i : ℕ) (rows : List (List Value)) → length entries ≤ i
    → rows_after columns 1 (map fields_of entries) ≡ with_rows rows (rows_after columns (i + 1) (drop i (map fields_of entries))) → rows_after columns 1 (map fields_of entries) ≡ Ok rows
rows_done columns entries i rows le so_far =
    so_far ∙ ap (λ (rs : List (List (List ℕ))). with_rows rows (rows_after columns (i + 1) rs)) (drop_all i (map fields_of entries) (omega (arith, le, length-map entries fields_of))) ∙ ap (λ (x : List (List Value)). Ok x) (append-nil rows)

-- ---- the kinds of imported rows

value_fits : (kind : Kind) (field : List ℕ) (v : Value) → value_in kind field ≡ Some v → value_kind v ≡ kind
value_fits kinds.Int field v e = by_number (number_of field) e
  where
    by_number : (o : Option ℕ) → option_map (λ n. value.Int n) o ≡ Some v → value_kind v ≡ kinds.Int
    by_number None k = absurd cc
    by_number (Some n) k = let s : value.Int n ≡ v = cc in ap value_kind (sym s)
value_fits kinds.Code field v e = by_code (read_code field) e
  where
    by_code : (o : Option ℕ) → option_map (λ n. value.Code n) o ≡ Some v → value_kind v ≡ kinds.Code
    by_code None k = absurd cc
    by_code (Some n) k = let s : value.Code n ≡ v = cc in ap value_kind (sym s)

some_same : {X : Type 0} {x y : X} → Some x ≡ Some y → x ≡ y
some_same e = cc

ok_same : {X E : Type 0} {x y : X} → ◌≡◌ {A = Result X E} (Ok x) (Ok y) → x ≡ y
ok_same e = cc

front_fits : (c : Column) (columns : List Column) (o : Option Value) (rest : Option (List Value)) (row : List Value) → ((v : Value) → o ≡ Some v → value_kind v ≡ c.kind) → ((more : List Value) → rest ≡ Some more → HasKinds columns more)
    → before o rest ≡ Some row → HasKinds (c ∷ columns) row
front_fits c columns None rest row one others e = absurd cc
front_fits c columns (Some v) None row one others e = absurd cc
front_fits c columns (Some v) (Some more) row one others e =
    subst (HasKinds (c ∷ columns)) (some_same e) (ap₂ (λ (a : Kind) (b : List Kind). a ∷ b) (one v refl) (others more refl))

row_fits : (columns : List Column) (fields : List (List ℕ)) (row : List Value) → row_in columns fields ≡ Some row → HasKinds columns row
row_fits [] fields row e = subst (HasKinds []) (some_same e) refl
row_fits (c ∷ columns) [] row e = absurd cc
row_fits (c ∷ columns) (f ∷ fields) row e = front_fits c columns (value_in c.kind f) (row_in columns fields) row (value_fits c.kind f) (row_fits columns fields) e

wide_fits : (columns : List Column) (b : Bool) (o : Option (List Value)) (row : List Value) → ((r : List Value) → o ≡ Some r → HasKinds columns r) → (if b then or_cause causes.Field o else Err causes.Width) ≡ Ok row → HasKinds columns row
wide_fits columns false o row fits e = absurd cc
wide_fits columns true None row fits e = absurd cc
wide_fits columns true (Some r) row fits e = fits row (ap (λ (x : List Value). Some x) (ok_same e))

record_fits : (columns : List Column) (fields : List (List ℕ)) (row : List Value) → row_or_cause columns fields ≡ Ok row → HasKinds columns row
record_fits columns fields row e = wide_fits columns (length fields == length columns) (row_in columns fields) row (row_fits columns fields) e

then_fit : (columns : List Column) (entry : ℕ) (o : Result (List Value) Cause) (rest : Result (List (List Value)) CsvErr) (rows : List (List Value)) → ((row : List Value) → o ≡ Ok row → HasKinds columns row)
    → ((more : List (List Value)) → rest ≡ Ok more → All (HasKinds columns) more) → then_rows entry o rest ≡ Ok rows → All (HasKinds columns) rows
then_fit columns entry (Err cause) rest rows one others e = absurd cc
then_fit columns entry (Ok row) (Err x) rows one others e = absurd cc
then_fit columns entry (Ok row) (Ok more) rows one others e = subst (λ (rs : List (List Value)). All (HasKinds columns) rs) (ok_same e) (All-cons (HasKinds columns) row more (one row refl) (others more refl))

pub rows_fit : (columns : List Column) (entry : ℕ) (records : List (List (List ℕ))) (rows : List (List Value)) → rows_after columns entry records ≡ Ok rows → All (HasKinds columns) rows
rows_fit columns entry [] rows e = subst (λ (rs : List (List Value)). All (HasKinds columns) rs) (ok_same e) (All-nil (HasKinds columns))
rows_fit columns entry (fields ∷ records) rows e = then_fit columns entry (row_or_cause columns fields) (rows_after columns (entry + 1) records) rows (record_fits columns fields) (rows_fit columns (entry + 1) records) e
