-- The cells of a row, column by column.
use Rattle.std.proofs.Common.{◌≡◌, ℕ, zero, suc, ◌+◌, ◌-◌, ◌/◌, ◌%◌, ◌<◌, ◌≤◌, min, List, [], ◌∷◌, ◌++◌, length, get_or, map, take, drop, filter, refl, sym, ap, ap₂, ◌∙◌, subst, arith, length-append, append_assoc}
use Rattle.std.specs.Prelude.{slice_index, slice_index_or}
use Rattle.std.specs.List.{range_with_len, sum_by, flat_map, AllByRecursion}
use Rattle.std.proofs.lemmas.List.{drop-drop, take-append-le, length-take, length-drop, get_or-take, get_or-drop, take-append-drop}
use Rattle.std.proofs.Math.Seq.{take-append_seam, drop-append_seam}
use Rattle.std.proofs.lemmas.List.Sums.{sum_by-cons}
use Rattle.pdn_base.specs.declared.marks.Kind.{Kind}
use Rattle.pdn_base.specs.declared.marks.Kind.TheVariants as kind
use Rattle.pdn_base.specs.declared.value.Value.{Value}
use Rattle.pdn_base.specs.Values.{cell, cut}
use Rattle.pdn_obl_rows.specs.Lists.{PaddedList, IsShaped, width_of, widths, words_for, plane_at, kind_at, planes_before, column_planes, word_planes, number_at, value_of, cells_at, row_at, is_valid, valid_rows}

pub widths-cons : (k : Kind) (ks : List Kind) → widths (k ∷ ks) ≡ width_of k + widths ks
widths-cons k ks = sum_by-cons width_of k ks

-- a column's planes past the first column's
pub column_planes-suc : (k : Kind) (ks : List Kind) (c : ℕ) (planes : List (List ℕ)) → column_planes (k ∷ ks) (suc c) planes ≡ column_planes ks c (drop (width_of k) planes)
column_planes-suc k ks c planes = ap (λ (ps : List (List ℕ)). take (width_of (kind_at ks c)) ps)
    (ap (λ n. drop n planes) (widths-cons k (take c ks)) ∙ sym (drop-drop (planes_before ks c) (width_of k) planes))

pub cell_is : (words : List ℕ) (row : ℕ) (kinds : List Kind) (planes : List (List ℕ)) (c : ℕ) → c < length kinds
    → cell (cells_at words row kinds planes) c ≡ value_of (kind_at kinds c) (number_at words (column_planes kinds c planes) row)
cell_is words row [] planes c h = absurd (omega arith)
cell_is words row (k ∷ ks) planes zero h = refl
cell_is words row (k ∷ ks) planes (suc c) h =
    cell_is words row ks (drop (width_of k) planes) c (omega arith)
    ∙ ap (λ (ps : List (List ℕ)). value_of (kind_at ks c) (number_at words ps row)) (sym (column_planes-suc k ks c planes))

pub before_within : (kinds : List Kind) (c : ℕ) → c < length kinds → planes_before kinds c + width_of (kind_at kinds c) ≤ widths kinds
before_within [] c h = absurd (omega arith)
before_within (k ∷ ks) zero h = omega (arith, widths-cons k ks)
before_within (k ∷ ks) (suc c) h = omega (arith, widths-cons k ks, widths-cons k (take c ks), before_within ks c (omega arith))

pub length-column_planes : (kinds : List Kind) (c : ℕ) (planes : List (List ℕ)) → length planes ≡ widths kinds → c < length kinds → length (column_planes kinds c planes) ≡ width_of (kind_at kinds c)
length-column_planes kinds c planes l h =
    omega (arith, length-take (width_of (kind_at kinds c)) (drop (planes_before kinds c) planes), length-drop (planes_before kinds c) planes, before_within kinds c h)

-- the planes of one column, then the rest
pub cells_one : (words : List ℕ) (row : ℕ) (k : Kind) (ks : List Kind) (ps rest : List (List ℕ)) → length ps ≡ width_of k
    → cells_at words row (k ∷ ks) (ps ++ rest) ≡ value_of k (number_at words ps row) ∷ cells_at words row ks rest
cells_one words row k ks ps rest l = ap₂ (λ (us vs : List (List ℕ)). value_of k (number_at words us row) ∷ cells_at words row ks vs)
    (ap (λ n. take n (ps ++ rest)) (sym l) ∙ take-append_seam ps rest)
    (ap (λ n. drop n (ps ++ rest)) (sym l) ∙ drop-append_seam ps rest)

pub cells_append : (words : List ℕ) (row : ℕ) (left right : List Kind) (ps qs : List (List ℕ)) → length ps ≡ widths left
    → cells_at words row (left ++ right) (ps ++ qs) ≡ cells_at words row left ps ++ cells_at words row right qs
cells_append words row [] right [] qs l = refl
cells_append words row [] right (p ∷ ps) qs l = absurd (omega (arith, l))
cells_append words row (k ∷ ks) right ps qs l =
    let w : ℕ = width_of k in
    let us : List (List ℕ) = take w ps in
    let vs : List (List ℕ) = drop w ps in
    let lu : length us ≡ w = omega (arith, length-take w ps, widths-cons k ks) in
    let lv : length vs ≡ widths ks = omega (arith, length-drop w ps, widths-cons k ks) in
    let cut_up : ps ++ qs ≡ us ++ (vs ++ qs) = ap (λ (xs : List (List ℕ)). xs ++ qs) (sym (take-append-drop w ps)) ∙ append_assoc us vs qs in
    ap (cells_at words row (k ∷ (ks ++ right))) cut_up
    ∙ cells_one words row k (ks ++ right) us (vs ++ qs) lu
    ∙ ap (λ (cs : List Value). value_of k (number_at words us row) ∷ cs) (cells_append words row ks right vs qs lv)

-- ---- cut columns
pub cells_cut : (words : List ℕ) (row : ℕ) (kinds : List Kind) (planes : List (List ℕ)) (columns : List ℕ) → length planes ≡ widths kinds → AllByRecursion (λ c. c < length kinds) columns
    → cells_at words row (map (kind_at kinds) columns) (flat_map (λ c. column_planes kinds c planes) columns) ≡ cut columns (cells_at words row kinds planes)
cells_cut words row kinds planes [] l h = refl
cells_cut words row kinds planes (c ∷ cs) l h =
    cells_one words row (kind_at kinds c) (map (kind_at kinds) cs) (column_planes kinds c planes) (flat_map (λ d. column_planes kinds d planes) cs) (length-column_planes kinds c planes l h.0)
    ∙ ap₂ (λ (v : Value) (vs : List Value). v ∷ vs) (sym (cell_is words row kinds planes c h.0)) (cells_cut words row kinds planes cs l h.1)
