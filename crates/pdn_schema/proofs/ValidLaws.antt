-- Rows and columns one by one.
use Rattle.std.proofs.Common.{◌≡◌, ℕ, zero, suc, ◌+◌, ◌≤◌, ◌<◌, Bool, true, false, cond, List, [], ◌∷◌, ◌++◌, length, take, get_or, Some, None, refl, sym, ap, subst, ◌∙◌, arith, inl, inr}
use Rattle.std.specs.Prelude.{◌==◌, option_map}
use Rattle.std.specs.List.{All, slice_get}
use Rattle.std.proofs.lemmas.Bool.{eq-eqb, ne_eqb, eqb-true, cases_lt}
use Rattle.std.proofs.lemmas.List.{take_all, take_more, length-map}
use Rattle.std.proofs.lemmas.List.Elements.{All-more}
use Rattle.std.proofs.lemmas.List.Sums.{count_by_more_yes, count_by_more_no, sum_by-cons}
use Rattle.std.proofs.lemmas.Option.{slice_get-map, slice_get_past, slice_get_within, slice_get_read, slice_get-get_or, get_or_from_slice_get}
use Rattle.pdn_base.specs.declared.marks.Kind.TheVariants as kinds
use Rattle.pdn_base.specs.declared.value.Value.{Value}
use Rattle.pdn_base.specs.Values.{number_of, cell}
use Rattle.pdn_schema.specs.declared.schema.Column.{Column}
use Rattle.pdn_schema.specs.Rows.{value_kind, kinds_of, column_kinds, HasKinds, standing, KeepsPer, KeepEach, DifferAt}

-- ---- counting a value

pub none_stand : (column number : ℕ) → standing column number [] ≡ 0
unfolding standing
none_stand column number = refl

pub count_yes : (rows : List (List Value)) (i column number count n : ℕ) (row : List Value) (v : Value) → i < length rows → row ≡ get_or rows i row → v ≡ cell row column → n ≡ number_of v → n ≡ number
    → count ≡ standing column number (take i rows) → count + 1 ≡ standing column number (take (i + 1) rows)
unfolding standing
count_yes rows i column number count n row v lt is cells says same so_far =
    let here : number_of (cell (get_or rows i row) column) ≡ number = ap (λ (r : List Value). number_of (cell r column)) (sym is) ∙ ap number_of (sym cells) ∙ sym says ∙ same in
    ap (λ (k : ℕ). k + 1) so_far ∙ sym (count_by_more_yes (λ r. number_of (cell r column) == number) rows i row lt (eq-eqb _ number here))

pub count_no : (rows : List (List Value)) (i column number count n : ℕ) (row : List Value) (v : Value) → i < length rows → row ≡ get_or rows i row → v ≡ cell row column → n ≡ number_of v → (n ≡ number → ⊥)
    → count ≡ standing column number (take i rows) → count ≡ standing column number (take (i + 1) rows)
unfolding standing
count_no rows i column number count n row v lt is cells says other so_far =
    let here : number_of (cell (get_or rows i row) column) ≡ n = ap (λ (r : List Value). number_of (cell r column)) (sym is) ∙ ap number_of (sym cells) ∙ sym says in
    so_far ∙ sym (count_by_more_no (λ r. number_of (cell r column) == number) rows i row lt (ne_eqb _ number (λ e. other (sym here ∙ e))))

-- a number that stands somewhere stands in a row
pub record StandsIn (column number : ℕ) (rows : List (List Value)) : Type 0 where
  pub at : ℕ
  pub within : at < length rows
  pub is : number_of (cell (get_or rows at []) column) ≡ number

stands_first : (column number : ℕ) (row : List Value) (rows : List (List Value)) (b : Bool) → (number_of (cell row column) == number) ≡ b → 1 ≤ cond b 1 0 + standing column number rows → (1 ≤ standing column number rows → StandsIn column number rows) → StandsIn column number (row ∷ rows)
stands_first column number row rows true h some rest = record { at = 0; within = omega arith; is = eqb-true _ number h }
stands_first column number row rows false h some rest =
    let s = rest (omega (arith, some)) in
    record { at = suc s.at; within = omega (arith, s.within); is = s.is }

pub stands_in : (column number : ℕ) (rows : List (List Value)) → 1 ≤ standing column number rows → StandsIn column number rows
unfolding standing
stands_in column number [] some = absurd (omega (arith, some))
stands_in column number (row ∷ rows) some =
    let parts = sum_by-cons (λ (r : List Value). cond (number_of (cell r column) == number) 1 0) row rows in
    stands_first column number row rows (number_of (cell row column) == number) refl (subst (λ (n : ℕ). 1 ≤ n) parts some) (stands_in column number rows)

-- where no row's value stands in too many rows, no value does
pub not_over : (column per : ℕ) (rows : List (List Value)) → ((k : ℕ) → k < length rows → standing column (number_of (cell (get_or rows k []) column)) rows ≤ per) → (number : ℕ) → standing column number rows ≤ per
not_over column per rows each number =
    elim (cases_lt per (standing column number rows)) [
      | inl over ↦
          let s = stands_in column number rows (omega (arith, over)) in
          subst (λ (n : ℕ). standing column n rows ≤ per) s.is (each s.at s.within)
      | inr fine ↦ fine
    ]

-- ---- columns

some_none : {X : Type 0} {x : X} → Some x ≡ None → ⊥
some_none e = absurd cc

taken : {X : Type 0} (xs : List X) (n k : ℕ) (x : X) → slice_get (take n xs) k ≡ Some x → (k < n) × (slice_get xs k ≡ Some x)
taken [] zero k x e = absurd (some_none (sym e))
taken [] (suc n) k x e = absurd (some_none (sym e))
taken (y ∷ xs) zero k x e = absurd (some_none (sym e))
taken (y ∷ xs) (suc n) zero x e = (omega arith, e)
taken (y ∷ xs) (suc n) (suc k) x e =
    let h = taken xs n k x e in
    (omega (arith, h.0), h.1)

taken_back : {X : Type 0} (xs : List X) (n k : ℕ) (x : X) → k < n → slice_get xs k ≡ Some x → slice_get (take n xs) k ≡ Some x
taken_back [] n k x lt e = absurd (some_none (sym e))
taken_back (y ∷ xs) zero k x lt e = absurd (omega (arith, lt))
taken_back (y ∷ xs) (suc n) zero x lt e = e
taken_back (y ∷ xs) (suc n) (suc k) x lt e = taken_back xs n k x (omega (arith, lt)) e

pub keeps_more : (columns : List Column) (rows : List (List Value)) (i : ℕ) (column : Column) → i < length columns → column ≡ get_or columns i column → KeepEach (take i columns) rows → KeepsPer rows i column → KeepEach (take (i + 1) columns) rows
keeps_more columns rows i column lt is before here at c found =
    let h = taken columns (i + 1) at c found in
    let whole : slice_get columns i ≡ Some column = slice_get_read columns (length columns) i column refl lt is in
    elim (cases_lt at i) [
      | inl less ↦ before at c (taken_back columns i at c less h.1)
      | inr more ↦
          let same : at ≡ i = omega (arith, h.0, more) in
          let found_here : Some c ≡ Some column = sym h.1 ∙ ap (slice_get columns) same ∙ whole in
          let one : c ≡ column = cc in
          rw (same, one) here
    ]

pub keeps_all : (columns : List Column) (rows : List (List Value)) (i : ℕ) → length columns ≤ i → KeepEach (take i columns) rows → KeepEach columns rows
keeps_all columns rows i le all = subst (λ (cs : List Column). KeepEach cs rows) (take_all i columns le) all

-- ---- kinds

kind_there : (columns : List Column) (i : ℕ) (column : Column) → i < length columns → column ≡ get_or columns i column → slice_get (column_kinds columns) i ≡ Some column.kind
kind_there columns i column lt is = slice_get-map (λ (c : Column). c.kind) columns i ∙ ap (option_map (λ (c : Column). c.kind)) (slice_get_read columns (length columns) i column refl lt is)

some_same : {X : Type 0} {x y : X} → Some x ≡ Some y → x ≡ y
some_same e = cc

pub differ_missing : (columns : List Column) (values : List Value) (i : ℕ) (column : Column) → i < length columns → column ≡ get_or columns i column → take i (kinds_of values) ≡ take i (column_kinds columns) → slice_get values i ≡ None → DifferAt columns values i
differ_missing columns values i column lt is before none = record {
  before = before;
  here = λ e. some_none (sym (kind_there columns i column lt is) ∙ sym e ∙ slice_get-map value_kind values i ∙ ap (option_map value_kind) none);
}

value_there : (values : List Value) (i : ℕ) (v : Value) → slice_get values i ≡ Some v → slice_get (kinds_of values) i ≡ Some (value_kind v)
value_there values i v is = slice_get-map value_kind values i ∙ ap (option_map value_kind) is

pub differ_kind : (columns : List Column) (values : List Value) (i : ℕ) (column : Column) (v : Value) → i < length columns → column ≡ get_or columns i column → take i (kinds_of values) ≡ take i (column_kinds columns) → slice_get values i ≡ Some v → (value_kind v ≡ column.kind → ⊥) → DifferAt columns values i
differ_kind columns values i column v lt is before there other = record {
  before = before;
  here = λ e. other (some_same (sym (value_there values i v there) ∙ e ∙ kind_there columns i column lt is));
}

take_next : {X : Type 0} (xs ys : List X) (i : ℕ) (x y : X) → take i xs ≡ take i ys → slice_get xs i ≡ Some x → slice_get ys i ≡ Some y → x ≡ y → take (i + 1) xs ≡ take (i + 1) ys
take_next xs ys i x y before h k same =
    let xx = get_or_from_slice_get xs i x x h in
    let yy = get_or_from_slice_get ys i y x k in
    take_more xs i x (slice_get_within xs i x h) ∙ ap (λ (zs : List _). zs ++ get_or xs i x ∷ []) before ∙ ap (λ (z : _). take i ys ++ z ∷ []) (xx ∙ same ∙ sym yy) ∙ sym (take_more ys i x (slice_get_within ys i y k))

pub same_more : (columns : List Column) (values : List Value) (i : ℕ) (column : Column) (v : Value) → i < length columns → column ≡ get_or columns i column → take i (kinds_of values) ≡ take i (column_kinds columns) → slice_get values i ≡ Some v → value_kind v ≡ column.kind → take (i + 1) (kinds_of values) ≡ take (i + 1) (column_kinds columns)
same_more columns values i column v lt is before there same = take_next (kinds_of values) (column_kinds columns) i (value_kind v) column.kind before (value_there values i v there) (kind_there columns i column lt is) same

pub differ_more : (columns : List Column) (values : List Value) (i : ℕ) → length columns ≤ i → take i (kinds_of values) ≡ take i (column_kinds columns) → length columns < length values → i ≤ length columns → DifferAt columns values (length columns)
differ_more columns values i le before lt within =
    let at : i ≡ length columns = omega (arith, le, within) in
    record { before = subst (λ (n : ℕ). take n (kinds_of values) ≡ take n (column_kinds columns)) at before; here = λ e. some_none (sym (slice_get-get_or (kinds_of values) (length columns) kinds.Int (omega (arith, lt, length-map values value_kind))) ∙ e ∙ slice_get_past (column_kinds columns) (length columns) (omega (arith, length-map columns (λ (c : Column). c.kind)))) }

-- ---- rows

pub all_more : (columns : List Column) (rows : List (List Value)) (i : ℕ) (row : List Value) → i < length rows → row ≡ get_or rows i row → All (HasKinds columns) (take i rows) → HasKinds columns row → All (HasKinds columns) (take (i + 1) rows)
all_more columns rows i row lt is before here = All-more (HasKinds columns) rows i row lt before (subst (HasKinds columns) is here)

pub all_all : (columns : List Column) (rows : List (List Value)) (i : ℕ) → length rows ≤ i → All (HasKinds columns) (take i rows) → All (HasKinds columns) rows
all_all columns rows i le all = subst (λ (rs : List (List Value)). All (HasKinds columns) rs) (take_all i rows le) all

pub at_most : (per n : ℕ) → (per < n → ⊥) → n ≤ per
at_most per n not_over = elim (cases_lt per n) [ inl over ↦ absurd (not_over over) | inr fine ↦ fine ]
