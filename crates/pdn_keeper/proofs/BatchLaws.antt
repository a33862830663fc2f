-- The batches of a site one by one.
use Rattle.std.proofs.Common.{◌≡◌, ℕ, ◌-◌, ◌^◌, ◌+◌, ◌<◌, ◌≤◌, Bool, true, false, cond, List, [], ◌∷◌, ◌++◌, length, drop, get_or, Some, None, Ok, Err, refl, sym, ap, subst, ◌∙◌, arith}
use Rattle.std.specs.Prelude.{Option, Result, ◌&&◌, ◌==◌, if◌then◌else◌, OnOk, IfErr}
use Rattle.std.specs.Str.{bytes_eq}
use Rattle.std.specs.List.{All, find}
use Rattle.std.proofs.lemmas.List.{append_assoc, append-nil, drop_more, drop_all, length-append}
use Rattle.std.proofs.lemmas.Slice.Eq.{bytes_eq-Decides}
use Rattle.std.proofs.lemmas.List.Elements.{All-append}
use Rattle.std.proofs.lemmas.Option.{slice_get_within}
use Rattle.pdn_base.specs.Bounds.{IsShort}
use Rattle.pdn_base.specs.declared.value.Value.{Value}
use Rattle.pdn_schema.specs.Models.{TableModel}
use Rattle.pdn_schema.specs.Rows.{HasKinds, IsValid}
use Rattle.pdn_keeper.specs.declared.site_keeper.Added.{Added}
use Rattle.pdn_keeper.specs.declared.site_keeper.Added.TheVariants.{New, Again}
use Rattle.pdn_keeper.specs.declared.site_keeper.AddErr.{AddErr}
use Rattle.pdn_keeper.specs.declared.site_keeper.AddErr.TheVariants.{Differs, OverRows, OverPer, Failed, Memory}
use Rattle.pdn_keeper.specs.Batches.{BatchHeld, batch_held, kept_rows, is_batch, kept_batch, IsTaken, IsCompared, IsAnswerBy, IsAnswer, NamesColumn, Stands}

-- ---- the rows of a table

step : (name : List ℕ) (batches : List BatchHeld) (i : ℕ) (batch : BatchHeld) (b : Bool) → i < length batches → batch ≡ get_or batches i batch → bytes_eq batch.table name ≡ b
    → kept_rows name (drop i batches) ≡ (if b then batch.rows ++ kept_rows name (drop (i + 1) batches) else kept_rows name (drop (i + 1) batches))
step name batches i batch b lt is same =
    ap (kept_rows name) (drop_more batches i batch lt ∙ ap (λ (x : BatchHeld). x ∷ drop (i + 1) batches) (sym is))
    ∙ ap (λ (k : Bool). if k then batch.rows ++ kept_rows name (drop (i + 1) batches) else kept_rows name (drop (i + 1) batches)) same

pub kept_yes : (name : List ℕ) (batches : List BatchHeld) (i : ℕ) (batch : BatchHeld) (rows : List (List Value)) → i < length batches → batch ≡ get_or batches i batch → bytes_eq batch.table name ≡ true
    → rows ++ kept_rows name (drop i batches) ≡ kept_rows name batches → (rows ++ batch.rows) ++ kept_rows name (drop (i + 1) batches) ≡ kept_rows name batches
kept_yes name batches i batch rows lt is same so_far =
    append_assoc rows batch.rows (kept_rows name (drop (i + 1) batches)) ∙ ap (λ (more : List (List Value)). rows ++ more) (sym (step name batches i batch true lt is same)) ∙ so_far

pub kept_no : (name : List ℕ) (batches : List BatchHeld) (i : ℕ) (batch : BatchHeld) (rows : List (List Value)) → i < length batches → batch ≡ get_or batches i batch → bytes_eq batch.table name ≡ false
    → rows ++ kept_rows name (drop i batches) ≡ kept_rows name batches → rows ++ kept_rows name (drop (i + 1) batches) ≡ kept_rows name batches
kept_no name batches i batch rows lt is other so_far =
    ap (λ (more : List (List Value)). rows ++ more) (sym (step name batches i batch false lt is other)) ∙ so_far

pub kept_done : (name : List ℕ) (batches : List BatchHeld) (i : ℕ) (rows : List (List Value)) → length batches ≤ i → rows ++ kept_rows name (drop i batches) ≡ kept_rows name batches → rows ≡ kept_rows name batches
kept_done name batches i rows le so_far =
    sym (append-nil rows) ∙ ap (λ (bs : List BatchHeld). rows ++ kept_rows name bs) (sym (drop_all i batches le)) ∙ so_far

-- ---- one more batch

first_of : (b : Bool) (rows kept more : List (List Value)) → (if b then rows ++ (kept ++ more) else (kept ++ more)) ≡ (if b then rows ++ kept else kept) ++ more
first_of true rows kept more = sym (append_assoc rows kept more)
first_of false rows kept more = refl

pub one_more : (name : List ℕ) (batches : List BatchHeld) (batch : BatchHeld) → kept_rows name (batches ++ batch ∷ []) ≡ kept_rows name batches ++ kept_rows name (batch ∷ [])
one_more name [] batch = refl
one_more name (b ∷ batches) batch =
    ap (λ (rows : List (List Value)). if bytes_eq b.table name then b.rows ++ rows else rows) (one_more name batches batch)
    ∙ first_of (bytes_eq b.table name) b.rows (kept_rows name batches) (kept_rows name (batch ∷ []))

itself : (name : List ℕ) → bytes_eq name name ≡ true
itself name = (bytes_eq-Decides name name).1 refl

same_name : (x y : List ℕ) → bytes_eq x y ≡ true → x ≡ y
same_name x y e = (bytes_eq-Decides x y).0 e

alone : (b : Bool) (rows : List (List Value)) → b ≡ true → (if b then rows ++ [] else []) ≡ rows
alone true rows e = append-nil rows
alone false rows e = absurd cc

-- a batch of the table
pub one_more_of : (name : List ℕ) (batches : List BatchHeld) (number : ℕ) (rows : List (List Value)) → kept_rows name (batches ++ batch_held name number rows ∷ []) ≡ kept_rows name batches ++ rows
one_more_of name batches number rows =
    one_more name batches (batch_held name number rows) ∙ ap (λ (more : List (List Value)). kept_rows name batches ++ more) (alone (bytes_eq name name) rows (itself name))

short_by : (b : Bool) (name : List ℕ) (kept more rows : List (List Value)) → length kept < 2 ^ 32 - 1 → (b ≡ true → length kept + length rows ≤ 256) → more ≡ (if b then rows ++ [] else []) → length (kept ++ more) < 2 ^ 32 - 1
short_by true name kept more rows short few e = let long = few refl in let same = ap (λ (xs : List (List Value)). length xs) (e ∙ append-nil rows) in omega (arith, length-append kept more)
short_by false name kept more rows short few e = let same = ap (λ (xs : List (List Value)). length xs) e in omega (arith, length-append kept more)

pub short_push : (batches : List BatchHeld) (table : List ℕ) (number : ℕ) (rows : List (List Value)) → ((name : List ℕ) → IsShort (kept_rows name batches)) → length (kept_rows table batches) + length rows ≤ 256
    → (name : List ℕ) → IsShort (kept_rows name (batches ++ batch_held table number rows ∷ []))
short_push batches table number rows short few name =
    subst (λ (all : List (List Value)). length all < 2 ^ 32 - 1) (sym (one_more name batches (batch_held table number rows)))
    (short_by (bytes_eq table name) name (kept_rows name batches) (kept_rows name (batch_held table number rows ∷ [])) rows (short name)
    (λ e. subst (λ (n : List ℕ). length (kept_rows n batches) + length rows ≤ 256) (same_name table name e) few) refl)

-- ---- a batch that is kept

within_by : (name : List ℕ) (number : ℕ) (b : BatchHeld) (batches : List BatchHeld) (batch : BatchHeld) (named same : Bool) → (find (is_batch name number) batches ≡ Some batch → length batch.rows ≤ length (kept_rows name batches))
    → cond (named && same) (Some b) (find (is_batch name number) batches) ≡ Some batch → length batch.rows ≤ length (if named then b.rows ++ kept_rows name batches else kept_rows name batches)
within_by name number b batches batch true true later e = let is : b ≡ batch = cc in subst (λ (x : BatchHeld). length x.rows ≤ length (b.rows ++ kept_rows name batches)) is (omega (arith, length-append b.rows (kept_rows name batches)))
within_by name number b batches batch true false later e = omega (arith, later e, length-append b.rows (kept_rows name batches))
within_by name number b batches batch false same later e = later e

pub found_within : (name : List ℕ) (number : ℕ) (batches : List BatchHeld) (batch : BatchHeld) → kept_batch name number batches ≡ Some batch → length batch.rows ≤ length (kept_rows name batches)
found_within name number [] batch e = absurd cc
found_within name number (b ∷ batches) batch e = within_by name number b batches batch (bytes_eq b.table name) (b.number == number) (found_within name number batches batch) e

-- ---- valid rows

some_same : {X : Type 0} {x y : X} → Some x ≡ Some y → x ≡ y
some_same e = cc

taken_new : (o : Option BatchHeld) (t : TableModel) (kept rows : List (List Value)) → IsAnswerBy o t kept rows (Ok New) → IsTaken t kept rows (Ok New)
taken_new None t kept rows h = h
taken_new (Some batch) t kept rows h = absurd h

valid_more : (t : TableModel) (kept rows : List (List Value)) → IsTaken t kept rows (Ok New) → All (HasKinds t.columns) rows → IsValid t kept → IsValid t (kept ++ rows)
valid_more t kept rows taken kinds valid = record {
  kinds = All-append (HasKinds t.columns) kept rows valid.kinds kinds;
  few = omega (arith, taken.0, length-append kept rows);
  per = taken.1;
}

-- valid rows stay valid where more of the table's kinds are taken
pub stays_valid : (t : TableModel) (old new : List BatchHeld) (number : ℕ) (rows : List (List Value)) (result : Result Added AddErr) → IsAnswer t old number rows result
    → Stands (Some old) (Some new) (batch_held t.name number rows) result
    → OnOk result (All (HasKinds t.columns) rows → IsValid t (kept_rows t.name old) → IsValid t (kept_rows t.name new))
stays_valid t old new number rows (Ok New) answer stands = λ kinds valid.
    subst (IsValid t) (sym (ap (kept_rows t.name) (some_same stands) ∙ one_more_of t.name old number rows))
    (valid_more t (kept_rows t.name old) rows (taken_new (kept_batch t.name number old) t (kept_rows t.name old) rows answer) kinds valid)
stays_valid t old new number rows (Ok Again) answer stands = λ kinds valid. subst (λ (held : List BatchHeld). IsValid t (kept_rows t.name held)) (sym (some_same stands)) valid
stays_valid t old new number rows (Err e) answer stands = tt

-- ---- an answer names no column but the table's
taken_column : (t : TableModel) (kept rows : List (List Value)) (e : AddErr) → IsTaken t kept rows (Err e) → NamesColumn t.columns e
taken_column t kept rows (Differs at row) is = tt
taken_column t kept rows (OverRows count) is = tt
taken_column t kept rows (OverPer column value count) is = slice_get_within t.columns column is.1.column is.1.is
taken_column t kept rows Failed is = tt
taken_column t kept rows Memory is = tt

compared_column : (t : TableModel) (kept rows : List (List Value)) (e : AddErr) → IsCompared kept rows (Err e) → NamesColumn t.columns e
compared_column t kept rows (Differs at row) is = tt
compared_column t kept rows (OverRows count) is = tt
compared_column t kept rows (OverPer column value count) is = absurd is
compared_column t kept rows Failed is = tt
compared_column t kept rows Memory is = tt

answer_column : (found : Option BatchHeld) (t : TableModel) (kept rows : List (List Value)) (e : AddErr) → IsAnswerBy found t kept rows (Err e) → NamesColumn t.columns e
answer_column None t kept rows e is = taken_column t kept rows e is
answer_column (Some batch) t kept rows e is = compared_column t batch.rows rows e is

pub names_column : (t : TableModel) (held : List BatchHeld) (number : ℕ) (rows : List (List Value)) (result : Result Added AddErr) → IsAnswer t held number rows result → IfErr result (NamesColumn t.columns)
names_column t held number rows (Ok added) is = tt
names_column t held number rows (Err e) is = answer_column (kept_batch t.name number held) t (kept_rows t.name held) rows e is
