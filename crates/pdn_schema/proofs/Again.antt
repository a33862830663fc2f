-- What is printed of a schema says it.
use Rattle.std.proofs.Common.{◌≡◌, ℕ, zero, suc, ◌-◌, ◌^◌, ◌<◌, Bool, true, false, leb, ltb, List, [], ◌∷◌, ◌++◌, length, take, get_or, Some, refl, sym, ap, ◌∙◌, append_assoc, arith, rules}
use Rattle.std.specs.Prelude.{◌==◌, codes, not, ◌&&◌}
use Rattle.std.specs.List.{AllByRecursion}
use Rattle.std.specs.Str.{all_ascii_digits}
use Rattle.std.specs.Fmt.{decimal}
use Rattle.std.proofs.lemmas.Bool.{false≢true, lt-ltb, le-leb, ltb-true}
use Rattle.std.proofs.lemmas.List.{append-nil, length-append, take_at}
use Rattle.std.proofs.lemmas.Fmt.{decimal_nonempty, length-decimal-le, digits_decimal, digits_value-decimal}
use Rattle.std.proofs.lemmas.Str.Parse.{IsNumeralModel, numerals_by_fold}
use Rattle.pdn_schema.specs.declared.form.Form.{Form}
use Rattle.pdn_schema.specs.declared.form.Form.TheVariants as forms
use Rattle.pdn_schema.specs.Cut.{Piece, cut_from}
use Rattle.pdn_schema.specs.Words.{is_word_byte, is_line_byte, run, word_piece, words_of, ends_in_return, line_piece, lines_of}
use Rattle.pdn_base.specs.declared.marks.Kind.{Kind}
use Rattle.pdn_base.specs.declared.marks.Kind.TheVariants as kinds
use Rattle.pdn_base.specs.declared.marks.Label.{Label}
use Rattle.pdn_base.specs.declared.marks.Label.TheVariants as labels
use Rattle.pdn_schema.specs.declared.schema.Caller.{Caller}
use Rattle.pdn_schema.specs.declared.schema.Column.{Column}
use Rattle.pdn_schema.specs.Models.{TableModel, SchemaModel}
use Rattle.pdn_schema.specs.Names.{is_name, is_name_byte, all_name_bytes}
use Rattle.pdn_schema.specs.Schemas.{IsCaller, PerFits, IsColumn, IsTable, IsSchema}
use Rattle.pdn_schema.specs.Forms.{value_from, number_of, kind_said, form_of, two_words, four_words, six_words}
use Rattle.pdn_schema.specs.Printing.{kind_word, form_words, joined_behind, joined, lines_text, text_of}
use Rattle.pdn_schema.specs.Reading.{is_passed, callers_forms, columns_forms, tables_forms, forms_of, forms_in, Says}
use Rattle.pdn_schema.proofs.NameLaws.{and_true, name_bytes_of}
use Rattle.std.proofs.lemmas.Bool.Decides.{nat_tests}

-- ---- pieces

-- the bytes of a piece are passed over
cut_over : {X : Type 0} (piece : List ℕ → Piece X) (text rest : List ℕ) → cut_from piece (length text) (text ++ rest) ≡ cut_from piece 0 rest
unfolding cut_from
cut_over piece [] rest = refl
cut_over piece (b ∷ text) rest = cut_over piece text rest

cut_again : {X : Type 0} (piece : List ℕ → Piece X) (b : ℕ) (text rest : List ℕ) (x : X) → piece (b ∷ (text ++ rest)) ≡ record { more = length text; gives = Some x } → cut_from piece 0 (b ∷ (text ++ rest)) ≡ x ∷ cut_from piece 0 rest
unfolding cut_from
cut_again piece b text rest x is = rw is (ap (λ (xs : List _). x ∷ xs) (cut_over piece text rest))

abbrev all_pass : (ℕ → Bool) → List ℕ → Bool
all_pass test [] = true
all_pass test (b ∷ bs) = test b && all_pass test bs

abbrev next_passes : (ℕ → Bool) → List ℕ → Bool
next_passes test [] = false
next_passes test (b ∷ bs) = test b

run_none : (test : ℕ → Bool) (rest : List ℕ) → next_passes test rest ≡ false → run test rest ≡ 0
run_none test [] e = refl
run_none test (b ∷ bs) e = rw e refl

run_all : (test : ℕ → Bool) (t rest : List ℕ) → all_pass test t ≡ true → next_passes test rest ≡ false → run test (t ++ rest) ≡ length t
run_all test [] rest all next = run_none test rest next
run_all test (b ∷ t) rest all next =
    let h = and_true (test b) (all_pass test t) all in
    rw h.0 (ap suc (run_all test t rest h.1 next))

-- ---- words

record IsWord (w : List ℕ) : Type 0 where
  some : 0 < length w
  bytes : all_pass is_word_byte w ≡ true

word_by : (bytes : List ℕ) (m : ℕ) → run is_word_byte bytes ≡ suc m → word_piece bytes ≡ record { more = suc m - 1; gives = Some (take (suc m) bytes) }
word_by bytes m e =
    let long : ltb 0 (suc m) ≡ true = lt-ltb 0 (suc m) (omega arith) in
    rw (e, long) refl

word_is : (b : ℕ) (w rest : List ℕ) → run is_word_byte (b ∷ (w ++ rest)) ≡ suc (length w) → word_piece (b ∷ (w ++ rest)) ≡ record { more = length w; gives = Some (b ∷ w) }
word_is b w rest len =
    let taken : take (suc (length w)) (b ∷ (w ++ rest)) ≡ b ∷ w = ap (λ (t : List ℕ). b ∷ t) (take_at w rest (length w) refl) in
    let more : suc (length w) - 1 ≡ length w = omega arith in
    word_by (b ∷ (w ++ rest)) (length w) len ∙ rw (more, taken) refl

cut_empty : {X : Type 0} (piece : List ℕ → Piece X) → cut_from piece 0 [] ≡ []
unfolding cut_from
cut_empty piece = refl

word_then : (w rest : List ℕ) → IsWord w → next_passes is_word_byte rest ≡ false → cut_from word_piece 0 (w ++ rest) ≡ w ∷ cut_from word_piece 0 rest
word_then [] rest is next = absurd (omega (arith, is.some))
word_then (b ∷ w) rest is next = cut_again word_piece b w rest (b ∷ w) (word_is b w rest (run_all is_word_byte (b ∷ w) rest is.bytes next))

blank_then : (rest : List ℕ) → cut_from word_piece 0 (32 ∷ rest) ≡ cut_from word_piece 0 rest
unfolding cut_from
blank_then rest = refl

words_behind : (w : List ℕ) (ws : List (List ℕ)) → IsWord w → AllByRecursion IsWord ws → words_of (joined_behind w ws) ≡ w ∷ ws
words_behind w [] is all = ap (cut_from word_piece 0) (sym (append-nil w)) ∙ word_then w [] is refl ∙ ap (λ (xs : List (List ℕ)). w ∷ xs) (cut_empty word_piece)
words_behind w (v ∷ ws) is all = word_then w (32 ∷ joined_behind v ws) is refl ∙ ap (λ (xs : List (List ℕ)). w ∷ xs) (blank_then (joined_behind v ws) ∙ words_behind v ws all.0 all.1)

-- ---- lines

-- a byte of a printed line
abbrev is_plain : ℕ → Bool
is_plain b = not (b == 10) && not (b == 13)

plain_at : (l rest : List ℕ) (k : ℕ) → all_pass is_plain l ≡ true → k < length l → is_plain (get_or (l ++ rest) k 0) ≡ true
plain_at [] rest k all lt = absurd (omega arith)
plain_at (b ∷ l) rest zero all lt = (and_true (is_plain b) (all_pass is_plain l) all).0
plain_at (b ∷ l) rest (suc k) all lt = plain_at l rest k (and_true (is_plain b) (all_pass is_plain l) all).1 (omega arith)

not_true : (b : Bool) → not b ≡ true → b ≡ false
not_true true e = absurd (false≢true e)
not_true false e = refl

and_false : (x : Bool) → x && false ≡ false
and_false true = refl
and_false false = refl

line_bytes : (l : List ℕ) → all_pass is_plain l ≡ true → all_pass is_line_byte l ≡ true
line_bytes [] all = refl
line_bytes (b ∷ l) all =
    let h = and_true (is_plain b) (all_pass is_plain l) all in
    let k = and_true (not (b == 10)) (not (b == 13)) h.0 in
    rw k.0 (line_bytes l h.1)

no_return : (bytes : List ℕ) (n : ℕ) → is_plain (get_or bytes (n - 1) 0) ≡ true → ends_in_return bytes n ≡ false
no_return bytes n plain =
    let k = and_true (not (get_or bytes (n - 1) 0 == 10)) (not (get_or bytes (n - 1) 0 == 13)) plain in
    rw (not_true _ k.1) (and_false _)

line_by : (bytes : List ℕ) (m : ℕ) → run is_line_byte bytes ≡ m → ends_in_return bytes m ≡ false → line_piece bytes ≡ record { more = m; gives = Some (take m bytes) }
line_by bytes m e f = rw (e, f) refl

line_is : (b : ℕ) (l rest : List ℕ) → all_pass is_plain (b ∷ l) ≡ true → line_piece (b ∷ ((l ++ 10 ∷ []) ++ rest)) ≡ record { more = length (l ++ 10 ∷ []); gives = Some (b ∷ l) }
line_is b l rest plain =
    let whole : b ∷ ((l ++ 10 ∷ []) ++ rest) ≡ (b ∷ l) ++ 10 ∷ rest = ap (λ (t : List ℕ). b ∷ t) (append_assoc l (10 ∷ []) rest) in
    let len : length (l ++ 10 ∷ []) ≡ suc (length l) = omega (arith, length-append l (10 ∷ [])) in
    let runs : run is_line_byte ((b ∷ l) ++ 10 ∷ rest) ≡ suc (length l) = run_all is_line_byte (b ∷ l) (10 ∷ rest) (line_bytes (b ∷ l) plain) refl in
    let stops : ends_in_return ((b ∷ l) ++ 10 ∷ rest) (suc (length l)) ≡ false = no_return ((b ∷ l) ++ 10 ∷ rest) (suc (length l)) (plain_at (b ∷ l) (10 ∷ rest) (suc (length l) - 1) plain (omega arith)) in
    let taken : take (suc (length l)) ((b ∷ l) ++ 10 ∷ rest) ≡ b ∷ l = take_at (b ∷ l) (10 ∷ rest) (suc (length l)) refl in
    ap line_piece whole ∙ line_by ((b ∷ l) ++ 10 ∷ rest) (suc (length l)) runs stops ∙ rw (len, taken) refl

no_line : (rest : List ℕ) → line_piece (10 ∷ rest) ≡ record { more = 0; gives = Some [] }
no_line rest = refl

line_then : (l rest : List ℕ) → all_pass is_plain l ≡ true → cut_from line_piece 0 (l ++ 10 ∷ rest) ≡ l ∷ cut_from line_piece 0 rest
line_then [] rest plain = cut_again line_piece 10 [] rest [] (no_line rest)
line_then (b ∷ l) rest plain =
    ap (λ (t : List ℕ). cut_from line_piece 0 (b ∷ t)) (sym (append_assoc l (10 ∷ []) rest)) ∙ cut_again line_piece b (l ++ 10 ∷ []) rest (b ∷ l) (line_is b l rest plain)

-- ---- numbers and names

own : IsNumeralModel (λ ds. all_ascii_digits ds ≡ true) (value_from 0)
own = numerals_by_fold _ (search rules) value_from (search rules)

number_again : (n : ℕ) → n < 10 ^ 10 → number_of (decimal n) ≡ Some n
number_again n lt =
    let small : n < 2 ^ 64 = omega arith in
    let some : ltb 0 (length (decimal n)) ≡ true = lt-ltb _ _ (decimal_nonempty n small) in
    let short : leb (length (decimal n)) 10 ≡ true = le-leb _ _ (length-decimal-le 10 n (omega arith) lt small) in
    rw (some, short, digits_decimal own n small, digits_value-decimal own n small) refl

-- ---- forms

abbrev Printable : Form → Type 0
Printable (forms.Version n) = n < 10 ^ 10
Printable (forms.Floor n) = n < 10 ^ 10
Printable (forms.Caller name calls) = (is_name name ≡ true) × (calls < 10 ^ 10)
Printable (forms.Table name rows) = (is_name name ≡ true) × (rows < 10 ^ 10)
Printable (forms.Column name kind labels.Public per) = (is_name name ≡ true) × (per < 10 ^ 10)
Printable (forms.Column name kind mark per) = (is_name name ≡ true) × (per ≡ 0)
Printable forms.End = Unit {0}
Printable forms.Nothing = ⊥

digit_byte : (b : ℕ) → leb 48 b && leb b 57 ≡ true → (is_word_byte b ≡ true) × (is_plain b ≡ true)
digit_byte b e = (grind (arith, nat_tests), grind (arith, nat_tests))

name_byte : (b : ℕ) → is_name_byte b ≡ true → (is_word_byte b ≡ true) × (is_plain b ≡ true)
name_byte b e = (grind (arith, nat_tests), grind (arith, nat_tests))

-- bytes of words that are printed
record IsPrinted (w : List ℕ) : Type 0 where
  some : 0 < length w
  word : all_pass is_word_byte w ≡ true
  plain : all_pass is_plain w ≡ true

name_bytes : (w : List ℕ) → all_name_bytes w ≡ true → (all_pass is_word_byte w ≡ true) × (all_pass is_plain w ≡ true)
name_bytes [] e = (refl, refl)
name_bytes (b ∷ w) e =
    let h = and_true (is_name_byte b) (all_name_bytes w) e in
    let k = name_byte b h.0 in
    let r = name_bytes w h.1 in
    (rw k.0 r.0, rw k.1 r.1)

digit_bytes : (w : List ℕ) → all_ascii_digits w ≡ true → (all_pass is_word_byte w ≡ true) × (all_pass is_plain w ≡ true)
digit_bytes [] e = (refl, refl)
digit_bytes (b ∷ w) e =
    let h = and_true _ (all_ascii_digits w) e in
    let k = digit_byte b h.0 in
    let r = digit_bytes w h.1 in
    (rw k.0 r.0, rw k.1 r.1)

number_printed : (n : ℕ) → n < 10 ^ 10 → IsPrinted (decimal n)
number_printed n lt =
    let small : n < 2 ^ 64 = omega arith in
    let h = digit_bytes (decimal n) (digits_decimal own n small) in
    record { some = decimal_nonempty n small; word = h.0; plain = h.1 }

name_some : (w : List ℕ) → is_name w ≡ true → 0 < length w
unfolding is_name
name_some w e = ltb-true _ _ (and_true _ _ (and_true _ _ (and_true _ _ (and_true _ _ e).0).0).0).0

name_printed : (w : List ℕ) → is_name w ≡ true → IsPrinted w
name_printed w e =
    let h = name_bytes w (name_bytes_of w e) in
    record { some = name_some w e; word = h.0; plain = h.1 }

kind_again : (k : Kind) → kind_said (kind_word k) ≡ Some k
unfolding kind_said
kind_again kinds.Int = refl
kind_again kinds.Code = refl

form_again : (f : Form) → Printable f → form_of (form_words f) ≡ f
unfolding form_of two_words four_words six_words
form_again (forms.Version n) ok = rw (number_again n ok) refl
form_again (forms.Floor n) ok = rw (number_again n ok) refl
form_again (forms.Caller name calls) (is, ok) = rw (number_again calls ok, is) refl
form_again (forms.Table name rows) (is, ok) = rw (number_again rows ok, is) refl
form_again (forms.Column name kind labels.Public per) (is, ok) = rw (number_again per ok, is, kind_again kind) refl
form_again (forms.Column name kind labels.Protected per) (is, ok) = rw (ok, is, kind_again kind) refl
form_again (forms.Column name kind labels.Private per) (is, ok) = rw (ok, is, kind_again kind) refl
form_again forms.End ok = refl
form_again forms.Nothing ok = absurd ok

-- ---- lines of forms

literal : (w : List ℕ) → 0 < length w → all_pass is_word_byte w ≡ true → all_pass is_plain w ≡ true → IsPrinted w
literal w a b c = record { some = a; word = b; plain = c }

kind_printed : (k : Kind) → IsPrinted (kind_word k)
kind_printed kinds.Int = literal (codes "int") (omega arith) refl refl
kind_printed kinds.Code = literal (codes "code") (omega arith) refl refl

words_printed : (f : Form) → Printable f → AllByRecursion IsPrinted (form_words f)
words_printed (forms.Version n) ok = (literal (codes "version") (omega arith) refl refl, (number_printed n ok, tt))
words_printed (forms.Floor n) ok = (literal (codes "floor") (omega arith) refl refl, (number_printed n ok, tt))
words_printed (forms.Caller name calls) (is, ok) = (literal (codes "caller") (omega arith) refl refl, (name_printed name is, (literal (codes "calls") (omega arith) refl refl, (number_printed calls ok, tt))))
words_printed (forms.Table name rows) (is, ok) = (literal (codes "table") (omega arith) refl refl, (name_printed name is, (literal (codes "rows") (omega arith) refl refl, (number_printed rows ok, tt))))
words_printed (forms.Column name kind labels.Public per) (is, ok) =
    (literal (codes "column") (omega arith) refl refl, (name_printed name is, (kind_printed kind, (literal (codes "public") (omega arith) refl refl, (literal (codes "per") (omega arith) refl refl, (number_printed per ok, tt))))))
words_printed (forms.Column name kind labels.Protected per) (is, ok) = (literal (codes "column") (omega arith) refl refl, (name_printed name is, (kind_printed kind, (literal (codes "protected") (omega arith) refl refl, tt))))
words_printed (forms.Column name kind labels.Private per) (is, ok) = (literal (codes "column") (omega arith) refl refl, (name_printed name is, (kind_printed kind, (literal (codes "private") (omega arith) refl refl, tt))))
words_printed forms.End ok = (literal (codes "end") (omega arith) refl refl, tt)
words_printed forms.Nothing ok = absurd ok

pass_more : (test : ℕ → Bool) (x y : List ℕ) → all_pass test x ≡ true → all_pass test y ≡ true → all_pass test (x ++ y) ≡ true
pass_more test [] y h k = k
pass_more test (b ∷ x) y h k =
    let e = and_true (test b) (all_pass test x) h in
    rw e.0 (pass_more test x y e.1 k)

joined_plain : (w : List ℕ) (ws : List (List ℕ)) → IsPrinted w → AllByRecursion IsPrinted ws → all_pass is_plain (joined_behind w ws) ≡ true
joined_plain w [] is all = is.plain
joined_plain w (v ∷ ws) is all = pass_more is_plain w (32 ∷ joined_behind v ws) is.plain (joined_plain v ws all.0 all.1)

only_words : (ws : List (List ℕ)) → AllByRecursion IsPrinted ws → AllByRecursion IsWord ws
only_words [] all = tt
only_words (w ∷ ws) all = (record { some = all.0.some; bytes = all.0.word }, only_words ws all.1)

line_words : (ws : List (List ℕ)) → AllByRecursion IsPrinted ws → (words_of (joined ws) ≡ ws) × (all_pass is_plain (joined ws) ≡ true)
line_words [] all = (cut_empty word_piece, refl)
line_words (w ∷ ws) all =
    let h = only_words (w ∷ ws) all in
    (words_behind w ws h.0 h.1, joined_plain w ws all.0 all.1)

not_passed : (f : Form) → Printable f → is_passed (form_words f) ≡ false
not_passed (forms.Version n) ok = refl
not_passed (forms.Floor n) ok = refl
not_passed (forms.Caller name calls) ok = refl
not_passed (forms.Table name rows) ok = refl
not_passed (forms.Column name kind mark per) ok = refl
not_passed forms.End ok = refl
not_passed forms.Nothing ok = absurd ok

-- what is printed of forms says these forms
forms_again : (fs : List Form) → AllByRecursion Printable fs → forms_in (lines_of (lines_text fs)) ≡ fs
forms_again [] all = ap forms_in (cut_empty line_piece)
forms_again (f ∷ fs) all =
    let h = line_words (form_words f) (words_printed f all.0) in
    let lines : lines_of (lines_text (f ∷ fs)) ≡ joined (form_words f) ∷ lines_of (lines_text fs) = line_then (joined (form_words f)) (lines_text fs) h.1 in
    rw (lines, h.0, not_passed f all.0, form_again f all.0) (ap (λ (gs : List Form). f ∷ gs) (forms_again fs all.1))

-- ---- the forms of a schema can be printed

all_more : {X : Type 0} (P : X → Type 0) (xs ys : List X) → AllByRecursion P xs → AllByRecursion P ys → AllByRecursion P (xs ++ ys)
all_more P [] ys h k = k
all_more P (x ∷ xs) ys h k = (h.0, all_more P xs ys h.1 k)

callers_printable : (cs : List Caller) → AllByRecursion IsCaller cs → AllByRecursion Printable (callers_forms cs)
callers_printable [] all = tt
callers_printable (c ∷ cs) all = ((all.0.name, omega (arith, all.0.most)), callers_printable cs all.1)

column_printable : (name : List ℕ) (kind : Kind) (mark : Label) (rows per : ℕ) → is_name name ≡ true → PerFits mark rows per → Printable (forms.Column name kind mark per)
column_printable name kind labels.Public rows per named fits = (named, omega (arith, fits.1))
column_printable name kind labels.Protected rows per named fits = (named, fits)
column_printable name kind labels.Private rows per named fits = (named, fits)

columns_printable : (rows : ℕ) (cs : List Column) → AllByRecursion (IsColumn rows) cs → AllByRecursion Printable (columns_forms cs)
columns_printable rows [] all = tt
columns_printable rows (c ∷ cs) all = (column_printable c.name c.kind c.mark rows c.per all.0.name all.0.per, columns_printable rows cs all.1)

tables_printable : (ts : List TableModel) → AllByRecursion IsTable ts → AllByRecursion Printable (tables_forms ts)
tables_printable [] all = tt
tables_printable (t ∷ ts) all =
    let head = all.0.head in
    let columns = columns_printable t.rows t.columns head.each in
    ((head.name, omega (arith, head.most)), all_more Printable (columns_forms t.columns) (tables_forms ts) columns (tables_printable ts all.1))

schema_printable : (s : SchemaModel) → IsSchema s → AllByRecursion Printable (forms_of s)
schema_printable s is =
    let tables = all_more Printable (tables_forms s.tables) (forms.End ∷ []) (tables_printable s.tables is.tables.each) (tt, tt) in
    (omega arith, (omega (arith, is.floor.most), all_more Printable (callers_forms s.callers) (tables_forms s.tables ++ forms.End ∷ []) (callers_printable s.callers is.callers.each) tables))

pub printed_says : (s : SchemaModel) → IsSchema s → Says (text_of s) s
printed_says s is = record { lines = forms_again (forms_of s) (schema_printable s is); fits = is }

pub text_says : (s t : SchemaModel) (old out : List ℕ) → old ≡ [] → out ≡ old ++ text_of s → s ≡ t → IsSchema s → Says out t
text_says s t old out empty added same is =
    let whole : out ≡ text_of s = rw (added, empty) refl in
    rw (whole, ← same) (printed_says s is)
