-- The text of lines, line by line.
use Rattle.std.proofs.Common.{◌≡◌, ℕ, List, [], ◌∷◌, ◌++◌, ◌+◌, ◌<◌, length, get_or, take, Result, Ok, Err, refl, sym, ap, ◌∙◌, append_assoc, arith}
use Rattle.std.proofs.lemmas.List.{append-nil, take_more}
use Rattle.std.proofs.lemmas.Fmt.{decimal_digit}
use Rattle.std.specs.Prelude.{codes, OnOk}
use Rattle.pdn_schema.specs.declared.form.Form.{Form}
use Rattle.pdn_schema.specs.declared.form.Form.TheVariants as forms
use Rattle.pdn_schema.specs.declared.schema.Caller.{Caller}
use Rattle.pdn_schema.specs.declared.schema.Column.{Column}
use Rattle.pdn_schema.specs.Models.{TableModel, SchemaModel}
use Rattle.pdn_schema.specs.Reading.{callers_forms, column_form, columns_forms, table_forms, tables_forms}
use Rattle.pdn_schema.specs.Printing.{joined, form_words, line_text, lines_text, text_of}
use Rattle.pdn_schema.proofs.Found.{callers_more, columns_more, tables_more}

text_more : (fs gs : List Form) → lines_text (fs ++ gs) ≡ lines_text fs ++ lines_text gs
text_more [] gs = refl
text_more (f ∷ fs) gs = ap (λ (t : List ℕ). joined (form_words f) ++ 10 ∷ t) (text_more fs gs) ∙ sym (append_assoc (joined (form_words f)) (10 ∷ lines_text fs) (lines_text gs))

-- a loop's step, where the forms of one more element stand behind those before
step : {X : Type 0} (forms_for : List X → List Form) (one : X → List Form) → ((xs : List X) (x : X) → forms_for (xs ++ x ∷ []) ≡ forms_for xs ++ one x)
    → (xs : List X) (i : ℕ) (x : X) (before old new : List ℕ) → i < length xs → x ≡ get_or xs i x → old ≡ before ++ lines_text (forms_for (take i xs)) → new ≡ old ++ lines_text (one x) → new ≡ before ++ lines_text (forms_for (take (i + 1) xs))
step forms_for one more xs i x before old new lt is so_far added =
    let next : take (i + 1) xs ≡ take i xs ++ x ∷ [] = take_more xs i x lt ∙ ap (λ (d : _). take i xs ++ d ∷ []) (sym is) in
    added ∙ ap (λ (t : List ℕ). t ++ lines_text (one x)) so_far ∙ append_assoc before (lines_text (forms_for (take i xs))) (lines_text (one x))
    ∙ ap (λ (t : List ℕ). before ++ t) (sym (text_more (forms_for (take i xs)) (one x)) ∙ ap lines_text (sym (more (take i xs) x)))
    ∙ ap (λ (ds : List _). before ++ lines_text (forms_for ds)) (sym next)

pub callers_step : (cs : List Caller) (i : ℕ) (c : Caller) (before old new : List ℕ) → i < length cs → c ≡ get_or cs i c → old ≡ before ++ lines_text (callers_forms (take i cs)) → new ≡ old ++ line_text (forms.Caller c.name c.calls) → new ≡ before ++ lines_text (callers_forms (take (i + 1) cs))
callers_step = step callers_forms (λ c. forms.Caller c.name c.calls ∷ []) (λ xs x. callers_more xs (x ∷ []))

pub columns_step : (cs : List Column) (i : ℕ) (c : Column) (before old new : List ℕ) → i < length cs → c ≡ get_or cs i c → old ≡ before ++ lines_text (columns_forms (take i cs)) → new ≡ old ++ line_text (column_form c) → new ≡ before ++ lines_text (columns_forms (take (i + 1) cs))
columns_step = step columns_forms (λ c. column_form c ∷ []) (λ xs x. columns_more xs (x ∷ []))

pub tables_step : (ts : List TableModel) (i : ℕ) (t : TableModel) (before old new : List ℕ) → i < length ts → t ≡ get_or ts i t → old ≡ before ++ lines_text (tables_forms (take i ts)) → new ≡ old ++ lines_text (table_forms t) → new ≡ before ++ lines_text (tables_forms (take (i + 1) ts))
tables_step = step tables_forms table_forms (λ xs x. tables_more xs (x ∷ []) ∙ ap (λ (fs : List Form). tables_forms xs ++ fs) (append-nil (table_forms x)))

version_line : codes "version 1\n" ≡ line_text (forms.Version 1)
version_line = ap (λ (d : List ℕ). codes "version " ++ (d ++ 10 ∷ [])) (sym (decimal_digit 1 (omega arith)))

five_parts : (a v f cs ts z : List ℕ) → ((((a ++ v) ++ f) ++ cs) ++ ts) ++ z ≡ a ++ (v ++ (f ++ (cs ++ (ts ++ z))))
five_parts a v f cs ts z = simp append_assoc

-- the parts of the text, one behind the other
pub text_parts : {E : Type 0} (r : Result (Unit {0}) E) (s : SchemaModel) (a b c d e out : List ℕ) → b ≡ a ++ codes "version 1\n" → c ≡ b ++ line_text (forms.Floor s.floor) → d ≡ c ++ lines_text (callers_forms s.callers) → e ≡ d ++ lines_text (tables_forms s.tables)
    → OnOk r (out ≡ e ++ line_text forms.End) → OnOk r (out ≡ a ++ text_of s)
text_parts (Err x) s a b c d e out h i j k l = tt
text_parts (Ok x) s a b c d e out h i j k l =
    let v = line_text (forms.Version 1) in
    let f = line_text (forms.Floor s.floor) in
    let cs = lines_text (callers_forms s.callers) in
    let ts = lines_text (tables_forms s.tables) in
    let z = line_text forms.End in
    let rest : lines_text (callers_forms s.callers ++ (tables_forms s.tables ++ forms.End ∷ [])) ≡ cs ++ (ts ++ z) = text_more (callers_forms s.callers) (tables_forms s.tables ++ forms.End ∷ []) ∙ ap (λ (t : List ℕ). cs ++ t) (text_more (tables_forms s.tables) (forms.End ∷ [])) in
    let whole : text_of s ≡ v ++ (f ++ (cs ++ (ts ++ z))) = text_more (forms.Version 1 ∷ []) (forms.Floor s.floor ∷ callers_forms s.callers ++ (tables_forms s.tables ++ forms.End ∷ [])) ∙ ap (λ (t : List ℕ). v ++ t) (text_more (forms.Floor s.floor ∷ []) (callers_forms s.callers ++ (tables_forms s.tables ++ forms.End ∷ [])) ∙ ap (λ (t : List ℕ). f ++ t) rest) in
    rw (l, k, j, i, h, version_line, whole) (five_parts a v f cs ts z)
