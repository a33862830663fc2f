-- The lines that are read are those of the schema that they give.
use Rattle.std.proofs.Common.{◌≡◌, ℕ, ◌+◌, ◌≤◌, length, Bool, true, false, cond, eqb, List, [], ◌∷◌, ◌++◌, Option, Some, None, Result, Ok, Err, refl, sym, ap, subst, ◌∙◌, append_assoc}
use Rattle.std.specs.Prelude.{codes, not, ◌||◌, ◌&&◌}
use Rattle.std.specs.Str.{bytes_eq}
use Rattle.std.proofs.lemmas.Bool.{false≢true, eqb-true}
use Rattle.std.proofs.lemmas.List.{append-nil}
use Rattle.pdn_base.specs.declared.marks.Kind.{Kind}
use Rattle.pdn_base.specs.declared.marks.Label.{Label}
use Rattle.pdn_base.specs.declared.marks.Label.TheVariants as labels
use Rattle.pdn_schema.specs.declared.cause.Cause.{Cause}
use Rattle.pdn_schema.specs.declared.form.Form.{Form}
use Rattle.pdn_schema.specs.declared.form.Form.TheVariants as forms
use Rattle.pdn_schema.specs.declared.schema.Caller.{Caller}
use Rattle.pdn_schema.specs.declared.schema.Column.{Column}
use Rattle.pdn_schema.specs.declared.read.SchemaErr.{SchemaErr}
use Rattle.pdn_schema.specs.declared.read.SchemaErr.TheVariants.{Line}
use Rattle.pdn_schema.specs.Models.{TableModel, Part}
use Rattle.pdn_schema.specs.Words.{words_of, lines_of}
use Rattle.pdn_schema.specs.Names.{is_name}
use Rattle.pdn_schema.specs.Forms.{number_of, kind_said, version_or, floor_or, caller_or, table_or, public_or, hidden_or, two_words, four_words, six_words, form_of}
use Rattle.pdn_schema.specs.Causes.{start, is_none, cause_of, closed, after, schema_of}
use Rattle.pdn_schema.specs.Schemas.{IsSchema}
use Rattle.pdn_schema.specs.Reading.{is_passed, judged, line_read, go_on, read_lines, read_part, callers_forms, columns_forms, table_forms, tables_forms, forms_of, said, forms_in, Says}
use Rattle.pdn_schema.proofs.NameLaws.{and_true}
use Rattle.pdn_schema.proofs.CauseLaws.{not_false, or_false, no_cause}
use Rattle.pdn_schema.proofs.Good.{Good, good_start, Named, good_version, good_floor, good_caller, good_table, good_column, good_end, some_is}

-- ---- the names of a line's form are names

named_if : (b : Bool) (f g : Form) → (b ≡ true → Named f) → Named g → Named (cond b f g)
named_if true f g h k = h refl
named_if false f g h k = k

named_version : (o : Option ℕ) → Named (version_or o)
named_version None = tt
named_version (Some n) = tt

named_floor : (o : Option ℕ) → Named (floor_or o)
named_floor None = tt
named_floor (Some n) = tt

named_caller : (name : List ℕ) (o : Option ℕ) → is_name name ≡ true → Named (caller_or name o)
named_caller name None is = tt
named_caller name (Some n) is = is

named_table : (name : List ℕ) (o : Option ℕ) → is_name name ≡ true → Named (table_or name o)
named_table name None is = tt
named_table name (Some n) is = is

named_public : (name : List ℕ) (k : Option Kind) (o : Option ℕ) → is_name name ≡ true → Named (public_or name k o)
named_public name None o is = tt
named_public name (Some k) None is = tt
named_public name (Some k) (Some n) is = is

named_hidden : (name : List ℕ) (k : Option Kind) (mark : Label) → is_name name ≡ true → Named (hidden_or name k mark)
named_hidden name None mark is = tt
named_hidden name (Some k) mark is = is

named_two : (a b : List ℕ) → Named (two_words a b)
unfolding two_words
named_two a b = named_if (bytes_eq a (codes "version")) _ _ (λ _. named_version (number_of b)) (named_if (bytes_eq a (codes "floor")) _ _ (λ _. named_floor (number_of b)) tt)

named_four : (a b c d : List ℕ) → Named (four_words a b c d)
unfolding four_words
named_four a b c d =
    named_if (bytes_eq a (codes "caller") && bytes_eq c (codes "calls") && is_name b) _ _ (λ e. named_caller b (number_of d) (and_true _ (is_name b) e).1)
    (named_if (bytes_eq a (codes "table") && bytes_eq c (codes "rows") && is_name b) _ _ (λ e. named_table b (number_of d) (and_true _ (is_name b) e).1)
    (named_if (bytes_eq a (codes "column") && bytes_eq d (codes "protected") && is_name b) _ _ (λ e. named_hidden b (kind_said c) labels.Protected (and_true _ (is_name b) e).1)
    (named_if (bytes_eq a (codes "column") && bytes_eq d (codes "private") && is_name b) _ _ (λ e. named_hidden b (kind_said c) labels.Private (and_true _ (is_name b) e).1) tt)))

named_six : (a b c d e f : List ℕ) → Named (six_words a b c d e f)
unfolding six_words
named_six a b c d e f =
    named_if (bytes_eq a (codes "column") && bytes_eq d (codes "public") && bytes_eq e (codes "per") && is_name b) _ _ (λ h. named_public b (kind_said c) (number_of f) (and_true _ (is_name b) h).1) tt

named_form : (words : List (List ℕ)) → Named (form_of words)
unfolding form_of
named_form [] = tt
named_form (a ∷ []) = named_if (bytes_eq a (codes "end")) forms.End forms.Nothing (λ _. tt) tt
named_form (a ∷ b ∷ []) = named_two a b
named_form (a ∷ b ∷ c ∷ []) = tt
named_form (a ∷ b ∷ c ∷ d ∷ []) = named_four a b c d
named_form (a ∷ b ∷ c ∷ d ∷ e ∷ []) = tt
named_form (a ∷ b ∷ c ∷ d ∷ e ∷ f ∷ []) = named_six a b c d e f
named_form (a ∷ b ∷ c ∷ d ∷ e ∷ f ∷ g ∷ words) = tt

-- ---- the lines for which a part stands

abbrev begun_forms : Bool → List Form
begun_forms true = forms.Version 1 ∷ []
begun_forms false = []

abbrev floor_forms : Option ℕ → List Form
floor_forms None = []
floor_forms (Some n) = forms.Floor n ∷ []

abbrev end_forms : Bool → List Form
end_forms true = forms.End ∷ []
end_forms false = []

abbrev head_forms : Part → List Form
head_forms p = begun_forms p.begun ++ floor_forms p.floor

abbrev so_far : Part → List Form
so_far p = head_forms p ++ (callers_forms p.callers ++ (tables_forms (closed p.done p.current) ++ end_forms p.ended))

pub callers_more : (cs ds : List Caller) → callers_forms (cs ++ ds) ≡ callers_forms cs ++ callers_forms ds
callers_more [] ds = refl
callers_more (c ∷ cs) ds = ap (λ (fs : List Form). forms.Caller c.name c.calls ∷ fs) (callers_more cs ds)

pub columns_more : (cs ds : List Column) → columns_forms (cs ++ ds) ≡ columns_forms cs ++ columns_forms ds
columns_more [] ds = refl
columns_more (c ∷ cs) ds = ap (λ (fs : List Form). forms.Column c.name c.kind c.mark c.per ∷ fs) (columns_more cs ds)

pub tables_more : (ts us : List TableModel) → tables_forms (ts ++ us) ≡ tables_forms ts ++ tables_forms us
tables_more [] us = refl
tables_more (t ∷ ts) us = ap (λ (fs : List Form). table_forms t ++ fs) (tables_more ts us) ∙ sym (append_assoc (table_forms t) (tables_forms ts) (tables_forms us))

abbrev Adds : Part → Form → Type 0
Adds p f = so_far (after p f) ≡ so_far p ++ f ∷ []

is_none_is : {X : Type 0} (o : Option X) → is_none o ≡ true → o ≡ None
is_none_is None e = refl
is_none_is (Some x) e = absurd (false≢true e)

adds_version : (p : Part) (n : ℕ) → Good p → cause_of p (forms.Version n) ≡ None → Adds p (forms.Version n)
adds_version p n good e =
    let h = no_cause p (forms.Version n) e in
    let one : n ≡ 1 = eqb-true n 1 (not_false (eqb n 1) h.1.1.0) in
    let none = good.unbegun h.1.0 in
    let rest = good.unfloored none in
    rw (h.1.0, is_none_is p.floor none, rest.0, rest.2, rest.1, rest.3, one) refl

adds_floor : (p : Part) (n : ℕ) → Good p → cause_of p (forms.Floor n) ≡ None → Adds p (forms.Floor n)
adds_floor p n good e =
    let h = no_cause p (forms.Floor n) e in
    let place = or_false (not p.begun) (not (is_none p.floor)) h.1.0 in
    let none = not_false (is_none p.floor) place.1 in
    let rest = good.unfloored none in
    rw (not_false p.begun place.0, is_none_is p.floor none, rest.0, rest.2, rest.1, rest.3) refl

adds_caller : (p : Part) (name : List ℕ) (calls : ℕ) → Good p → cause_of p (forms.Caller name calls) ≡ None → Adds p (forms.Caller name calls)
adds_caller p name calls good e =
    let new : Caller = record { name = name; calls = calls } in
    let h = no_cause p (forms.Caller name calls) e in
    let place = or_false (is_none p.floor || not (is_none p.current)) p.ended h.1.0 in
    let none = not_false (is_none p.current) (or_false (is_none p.floor) (not (is_none p.current)) place.0).1 in
    let bare = good.bare none place.1 in
    let cs = callers_forms p.callers in
    let inner : callers_forms (p.callers ++ new ∷ []) ++ [] ≡ (cs ++ []) ++ forms.Caller name calls ∷ [] =
    append-nil (callers_forms (p.callers ++ new ∷ [])) ∙ callers_more p.callers (new ∷ []) ∙ ap (λ (fs : List Form). fs ++ forms.Caller name calls ∷ []) (sym (append-nil cs)) in
    rw (is_none_is p.current none, bare, place.1) (ap (λ (fs : List Form). head_forms p ++ fs) inner ∙ sym (append_assoc (head_forms p) (cs ++ []) (forms.Caller name calls ∷ [])))

shifted : (a b c : List Form) (f : Form) → a ++ (b ++ (c ++ f ∷ [])) ≡ (a ++ (b ++ c)) ++ f ∷ []
shifted a b c f = ap (λ (fs : List Form). a ++ fs) (sym (append_assoc b c (f ∷ []))) ∙ sym (append_assoc a (b ++ c) (f ∷ []))

adds_table : (p : Part) (name : List ℕ) (rows : ℕ) → Good p → cause_of p (forms.Table name rows) ≡ None → Adds p (forms.Table name rows)
adds_table p name rows good e =
    let new : TableModel = record { name = name; rows = rows; columns = [] } in
    let f = forms.Table name rows in
    let all = closed p.done p.current in
    let h = no_cause p f e in
    let place = or_false (is_none p.floor) p.ended h.1.0 in
    let cs = callers_forms p.callers in
    let inner : tables_forms (all ++ new ∷ []) ++ [] ≡ (tables_forms all ++ []) ++ f ∷ [] =
    append-nil (tables_forms (all ++ new ∷ [])) ∙ tables_more all (new ∷ []) ∙ ap (λ (fs : List Form). fs ++ f ∷ []) (sym (append-nil (tables_forms all))) in
    rw (place.1) (ap (λ (fs : List Form). head_forms p ++ (cs ++ fs)) inner ∙ shifted (head_forms p) cs (tables_forms all ++ []) f)

some_none : {X : Type 0} {x : X} → Some x ≡ None → ⊥
some_none e = absurd cc

not_ended : (b : Bool) → (b ≡ true → ⊥) → b ≡ false
not_ended true h = absurd (h refl)
not_ended false h = refl

adds_column_at : (p : Part) (t : TableModel) (name : List ℕ) (kind : Kind) (mark : Label) (per : ℕ) → p.current ≡ Some t → Good p → Adds p (forms.Column name kind mark per)
adds_column_at p t name kind mark per is good =
    let new : Column = record { name = name; kind = kind; mark = mark; per = per } in
    let wide : TableModel = record { name = t.name; rows = t.rows; columns = t.columns ++ new ∷ [] } in
    let f = forms.Column name kind mark per in
    let cs = callers_forms p.callers in
    let going = not_ended p.ended (λ k. some_none (sym is ∙ (good.over k).0)) in
    let one : tables_forms (wide ∷ []) ≡ tables_forms (t ∷ []) ++ f ∷ [] =
    ap (λ (fs : List Form). (forms.Table t.name t.rows ∷ fs) ++ []) (columns_more t.columns (new ∷ [])) ∙ append-nil (table_forms t ++ f ∷ []) ∙ ap (λ (fs : List Form). fs ++ f ∷ []) (sym (append-nil (table_forms t))) in
    let inner : tables_forms (p.done ++ wide ∷ []) ++ [] ≡ (tables_forms (p.done ++ t ∷ []) ++ []) ++ f ∷ [] =
    append-nil _ ∙ tables_more p.done (wide ∷ []) ∙ ap (λ (fs : List Form). tables_forms p.done ++ fs) one ∙ sym (append_assoc (tables_forms p.done) (tables_forms (t ∷ [])) (f ∷ []))
    ∙ ap (λ (fs : List Form). fs ++ f ∷ []) (sym (tables_more p.done (t ∷ [])) ∙ sym (append-nil (tables_forms (p.done ++ t ∷ [])))) in
    rw (is, going) (ap (λ (fs : List Form). head_forms p ++ (cs ++ fs)) inner ∙ shifted (head_forms p) cs (tables_forms (p.done ++ t ∷ []) ++ []) f)

adds_end : (p : Part) → Good p → cause_of p forms.End ≡ None → Adds p forms.End
adds_end p good e =
    let h = no_cause p forms.End e in
    let place = or_false (is_none p.floor) p.ended h.1.0 in
    let all = tables_forms (closed p.done p.current) in
    let cs = callers_forms p.callers in
    rw (place.1) (ap (λ (fs : List Form). head_forms p ++ (cs ++ (fs ++ forms.End ∷ []))) (sym (append-nil all)) ∙ shifted (head_forms p) cs (all ++ []) forms.End)

abbrev Steps : Part → Form → Type 0
Steps p f = Adds p f × Good (after p f)

steps : (p : Part) (f : Form) → Named f → Good p → cause_of p f ≡ None → Steps p f
steps p (forms.Version n) named good e = (adds_version p n good e, good_version p n good e)
steps p (forms.Floor n) named good e = (adds_floor p n good e, good_floor p n good e)
steps p (forms.Caller name calls) named good e = (adds_caller p name calls good e, good_caller p name calls good named e)
steps p (forms.Table name rows) named good e = (adds_table p name rows good e, good_table p name rows good named e)
steps p (forms.Column name kind mark per) named good e =
    let t = some_is p.current (no_cause p (forms.Column name kind mark per) e).1.0 in
    (adds_column_at p t.0 name kind mark per t.1 good, good_column p name kind mark per good named e)
steps p forms.End named good e = (adds_end p good e, good_end p good e)
steps p forms.Nothing named good e =
    let h = no_cause p forms.Nothing e in
    absurd (false≢true (sym h.1.0 ∙ not_false p.ended h.0))

-- ---- line by line

pub judged_is : (n : ℕ) (p q : Part) (o : Option Cause) → judged n p o ≡ Ok q → (o ≡ None) × (p ≡ q)
judged_is n p q None e = (refl, cc)
judged_is n p q (Some c) e = absurd cc

pub go_ok : (r : Result Part SchemaErr) (f : Part → Result Part SchemaErr) (q : Part) → go_on r f ≡ Ok q → (p : Part) × (r ≡ Ok p) × (f p ≡ Ok q)
go_ok (Ok p) f q e = (p, refl, e)
go_ok (Err x) f q e = absurd cc

line_step : (n : ℕ) (p q : Part) (words : List (List ℕ)) (passed : Bool) → Good p → cond passed (Ok p) (judged n (after p (form_of words)) (cause_of p (form_of words))) ≡ Ok q
    → (fs : List Form) → (so_far q ++ fs ≡ so_far p ++ said passed (form_of words) fs) × Good q
line_step n p q words true good e fs =
    let is : p ≡ q = cc in
    rw (← is) (refl, good)
line_step n p q words false good e fs =
    let j = judged_is n (after p (form_of words)) q (cause_of p (form_of words)) e in
    let s = steps p (form_of words) (named_form words) good j.0 in
    subst (λ (r : Part). (so_far r ++ fs ≡ so_far p ++ form_of words ∷ fs) × Good r) j.1 (ap (λ (gs : List Form). gs ++ fs) s.0 ∙ append_assoc (so_far p) (form_of words ∷ []) fs, s.1)

ended_is : (n : ℕ) (p q : Part) (b : Bool) → cond b (Ok p) (Err (Line n 2)) ≡ Ok q → (b ≡ true) × (p ≡ q)
ended_is n p q true e = (refl, cc)
ended_is n p q false e = absurd cc

lines_found : (lines : List (List ℕ)) (n : ℕ) (p q : Part) → Good p → read_lines n p lines ≡ Ok q → (so_far p ++ forms_in lines ≡ so_far q) × Good q × (q.ended ≡ true)
unfolding read_lines line_read
lines_found [] n p q good e =
    let h = ended_is n p q p.ended e in
    subst (λ (r : Part). (so_far p ++ [] ≡ so_far r) × Good r × (r.ended ≡ true)) h.1 (append-nil (so_far p), good, h.0)
lines_found (line ∷ lines) n p q good e =
    let s = go_ok (line_read n p line) (λ r. read_lines (n + 1) r lines) q e in
    let one = line_step n p s.0 (words_of line) (is_passed (words_of line)) good s.1 (forms_in lines) in
    let rest = lines_found lines (n + 1) s.0 q one.1 s.2 in
    (sym one.0 ∙ rest.0, rest.1, rest.2)

-- ---- the whole

begun_if : (p : Part) (b : Bool) → Good p → p.begun ≡ b → is_none p.floor ≡ false → p.begun ≡ true
begun_if p true good h k = h
begun_if p false good h k = absurd (false≢true (sym k ∙ good.unbegun h))

whole_at : (q : Part) (n : ℕ) → q.floor ≡ Some n → q.begun ≡ true → q.current ≡ None → q.ended ≡ true → so_far q ≡ forms_of (schema_of q)
whole_at q n h i j k = rw (h, i, j, k) refl

is_whole : (q : Part) (n : ℕ) → q.floor ≡ Some n → Good q → q.current ≡ None → 1 ≤ length q.done → IsSchema (schema_of q)
is_whole q n h good none some = record {
  floor = rw h (good.floor n h);
  callers = good.callers;
  tables = record { few = rw none at good.few; each = good.each; distinct = rw none at good.distinct };
  some = some;
}

pub read_says : (bytes : List ℕ) (q : Part) → read_part bytes ≡ Ok q → Says bytes (schema_of q)
read_says bytes q e =
    let h = lines_found (lines_of bytes) 1 start q good_start e in
    let good = h.1 in
    let over = good.over h.2 in
    let n = some_is q.floor over.1 in
    let begun = begun_if q q.begun good refl over.1 in
    record { lines = h.0 ∙ whole_at q n.0 n.1 begun over.0 h.2; fits = is_whole q n.0 n.1 good over.0 over.2 }
