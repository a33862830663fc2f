-- What valid tables keep: their rows are as wide as the schema says, and one value of a public column stands in few of them.
use Rattle.std.proofs.Common.{◌≡◌, ℕ, zero, suc, ◌+◌, ◌≤◌, ◌==◌, Bool, true, false, cond, List, [], ◌∷◌, filter, length, map, get_or, count_by, sym, refl, ap, ◌∙◌, subst, arith, ⊎_elim, Some, nat_lt, length-append, ltb-true, ltb-false}
use Rattle.std.specs.List.{All, slice_get}
use Rattle.std.proofs.lemmas.Bool.{cases_Bool}
use Rattle.std.proofs.lemmas.Bool.Decides.{eqb_tells}
use Rattle.std.proofs.lemmas.List.{length-map}
use Rattle.std.proofs.lemmas.List.Elements.{All-head, All-tail, filter-append}
use Rattle.std.proofs.lemmas.List.Sums.{sum_by-cons}
use Rattle.pdn_base.specs.declared.value.Value.{Value}
use Rattle.pdn_base.specs.declared.marks.Label.{Label}
use Rattle.pdn_base.specs.declared.marks.Label.TheVariants as label
use Rattle.pdn_base.specs.Values.{cell, number_of}
use Rattle.pdn_base.proofs.RowLaws.{value_cmp-ties, is_eq-tie}
use Rattle.pdn_schema.specs.declared.schema.Column.{Column}
use Rattle.pdn_schema.specs.Models.{TableModel, SchemaModel, no_table, table_of}
use Rattle.pdn_schema.specs.Rows.{HasKinds, value_kind, standing, KeepEach, AreValid, union}
use Rattle.pdn_tree.specs.Shapes.{is_public, columns_in, table_columns}
use Rattle.pdn_tree.specs.Meaning.{Rows}
use Rattle.pdn_tree.specs.Columns.{Wide}
use Rattle.pdn_level.specs.declared.staged.Leaf.{Leaf}
use Rattle.pdn_level.specs.Links.{slice_at}
use Rattle.pdn_level.specs.Cutting.{same_value, at, AreWide, IsPublicLeaf}
use Rattle.pdn_level.specs.Padding.{per_in, per_of, IsFew, rows_in, rows_of}
use Rattle.pdn_level.proofs.Lists.{wide-append, get_or-past}

-- the columns of a table
columns_are : (tables : List TableModel) (t : ℕ) → columns_in (slice_get tables t) ≡ (get_or tables t no_table).columns
columns_are [] t = refl
columns_are (x ∷ xs) zero = refl
columns_are (x ∷ xs) (suc t) = columns_are xs t

row_length : (columns : List Column) (row : List Value) → HasKinds columns row → length row ≡ length columns
row_length columns row h = sym (length-map row value_kind) ∙ ap (λ ks. length ks) h ∙ length-map columns (λ c. c.kind)

rows_wide : (columns : List Column) (rows : Rows) → All (HasKinds columns) rows → Wide (length columns) rows
rows_wide columns [] h = tt
rows_wide columns (x ∷ xs) h = (row_length columns x (All-head (HasKinds columns) x xs h), rows_wide columns xs (All-tail (HasKinds columns) x xs h))

-- the rows that a site may hold
rows_are : (tables : List TableModel) (t : ℕ) → rows_in (slice_get tables t) ≡ (get_or tables t no_table).rows
rows_are [] t = refl
rows_are (x ∷ xs) zero = refl
rows_are (x ∷ xs) (suc t) = rows_are xs t

pub site_rows : (s : SchemaModel) (tables : List Rows) (t : ℕ) → AreValid s tables → length (get_or tables t []) ≤ rows_of s t
site_rows s tables t valid = by (nat_lt t (length s.tables)) refl
  where
    by : (b : Bool) → nat_lt t (length s.tables) ≡ b → length (get_or tables t []) ≤ rows_of s t
    by true e = omega (arith, (valid.each t (ltb-true t (length s.tables) e)).few, rows_are s.tables t)
    by false e = omega (arith, ap (λ (rows : Rows). length rows) (get_or-past tables [] t (omega (arith, valid.count, ltb-false t (length s.tables) e))))

-- a site's tables, by their numbers
abbrev pub site_tables : List Rows → ℕ → Rows
site_tables tables t = get_or tables t []

pub site_wide : (s : SchemaModel) (tables : List Rows) → AreValid s tables → AreWide s (site_tables tables)
site_wide s tables valid t = by (nat_lt t (length s.tables)) refl
  where
    by : (b : Bool) → nat_lt t (length s.tables) ≡ b → Wide (length (table_columns s t)) (get_or tables t [])
    by true e = subst (λ (columns : List Column). Wide (length columns) (get_or tables t [])) (sym (columns_are s.tables t)) (rows_wide (table_of s t).columns (get_or tables t []) (valid.each t (ltb-true t (length s.tables) e)).kinds)
    by false e = subst (λ (rows : Rows). Wide (length (table_columns s t)) rows) (sym (get_or-past tables [] t (omega (arith, valid.count, ltb-false t (length s.tables) e)))) tt

pub union_wide : (s : SchemaModel) (a b : List Rows) → AreValid s a → AreValid s b → AreWide s (union a b)
union_wide s a b va vb t = wide-append (length (table_columns s t)) (get_or a t []) (get_or b t []) (site_wide s a va t) (site_wide s b vb t)

itself : (n : ℕ) → (n == n) ≡ true
itself n = ⊎_elim (λ e. e.0) (λ e. absurd (e.1 refl)) (eqb_tells n n)

-- the rows with a value are no more than those with its number
at_standing : (c : ℕ) (v : Value) (rows : Rows) → length (at c v rows) ≤ standing c (number_of v) rows
unfolding standing
at_standing c v [] = omega arith
at_standing c v (row ∷ rows) = ⊎_elim
    (λ e.
    let same : number_of (cell row c) ≡ number_of v = sym (ap number_of (value_cmp-ties v (cell row c) (is_eq-tie _ e))) in
    omega (arith, at_standing c v rows, ap (λ b. length (cond b (row ∷ at c v rows) (at c v rows))) e, sum_by-cons (λ r. cond (number_of (cell r c) == number_of v) 1 0) row rows ∙ ap (λ b. cond b 1 0 + count_by (λ r. number_of (cell r c) == number_of v) rows) (ap (λ n. n == number_of v) same ∙ itself (number_of v))))
    (λ e. omega (arith, at_standing c v rows, ap (λ b. length (cond b (row ∷ at c v rows) (at c v rows))) e, sum_by-cons (λ r. cond (number_of (cell r c) == number_of v) 1 0) row rows))
    (cases_Bool (same_value v (cell row c)))

-- a public column, and its bound
public_mark : (l : Label) → is_public l ≡ true → l ≡ label.Public
public_mark label.Public h = refl
public_mark label.Protected h = absurd cc
public_mark label.Private h = absurd cc

public_column : (columns : List Column) (c : ℕ) → slice_at (map (λ k. is_public k.mark) columns) c ≡ true → (column : Column) × (slice_get columns c ≡ Some column) × (column.mark ≡ label.Public)
public_column [] c h = absurd cc
public_column (k ∷ ks) zero h = (k, refl, public_mark k.mark h)
public_column (k ∷ ks) (suc c) h = public_column ks c h

few_in : (columns : List Column) (c : ℕ) (v : Value) (rows : Rows) → slice_at (map (λ k. is_public k.mark) columns) c ≡ true → KeepEach columns rows → length (at c v rows) ≤ per_in (slice_get columns c)
few_in columns c v rows h keeps =
    let k = public_column columns c h in
    let bound : standing c (number_of v) rows ≤ k.0.per = keeps c k.0 k.1 k.2 (number_of v) in
    let per : per_in (slice_get columns c) ≡ k.0.per = ap per_in k.1 in
    omega (arith, at_standing c v rows, bound, per)

pub site_few : (s : SchemaModel) (tables : List Rows) (v : Value) (leaf : Leaf) → AreValid s tables → IsPublicLeaf s leaf → length (at leaf.column v (site_tables tables leaf.table)) ≤ per_of s leaf.table leaf.column
site_few s tables v leaf valid open_leaf = by (nat_lt leaf.table (length s.tables)) refl
  where
    by : (b : Bool) → nat_lt leaf.table (length s.tables) ≡ b → length (at leaf.column v (site_tables tables leaf.table)) ≤ per_of s leaf.table leaf.column
    by true e = few_in (table_columns s leaf.table) leaf.column v (site_tables tables leaf.table) open_leaf
        (subst (λ (columns : List Column). KeepEach columns (site_tables tables leaf.table)) (sym (columns_are s.tables leaf.table)) (valid.each leaf.table (ltb-true leaf.table (length s.tables) e)).per)
    by false e = omega (arith, ap (λ (rows : Rows). length (at leaf.column v rows)) (get_or-past tables [] leaf.table (omega (arith, valid.count, ltb-false leaf.table (length s.tables) e))))

pub plain_few : (s : SchemaModel) (tables : List Rows) (v : Value) (leaf : Leaf) → AreValid s tables → IsPublicLeaf s leaf → IsFew s (site_tables tables) 1 v leaf
plain_few s tables v leaf valid open_leaf = omega (arith, site_few s tables v leaf valid open_leaf)

pub union_few : (s : SchemaModel) (a b : List Rows) (v : Value) (leaf : Leaf) → AreValid s a → AreValid s b → IsPublicLeaf s leaf → IsFew s (union a b) 2 v leaf
union_few s a b v leaf va vb open_leaf =
    let here : List Value → Bool = λ row. same_value v (cell row leaf.column) in
    omega (
      arith,
      site_few s a v leaf va open_leaf,
      site_few s b v leaf vb open_leaf,
      ap (λ (rows : Rows). length rows) (filter-append here (get_or a leaf.table []) (get_or b leaf.table [])),
      length-append (filter here (get_or a leaf.table [])) (filter here (get_or b leaf.table [])),
    )
