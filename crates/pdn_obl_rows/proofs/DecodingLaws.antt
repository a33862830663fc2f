-- Rows, read from words plane by plane.
use Rattle.std.proofs.Common.{◌≡◌, ℕ, zero, suc, ◌+◌, ◌-◌, ◌*◌, ◌/◌, ◌%◌, ◌^◌, ◌<◌, ◌≤◌, Bool, true, false, cond, List, [], ◌∷◌, ◌++◌, length, get_or, map, filter, take, drop, refl, sym, ap, ap₂, ◌∙◌, subst, arith, length-append, append_assoc, append-nil, add-mul}
use Rattle.std.specs.Prelude.{slice_index, slice_index_or, nat_eq}
use Rattle.std.specs.List.{range_with_len}
use Rattle.std.proofs.lemmas.Nat.{mul-le, mul-add-lt}
use Rattle.std.proofs.lemmas.List.{map-append, get_or_at, drop_more}
use Rattle.std.proofs.lemmas.List.Elements.{filter-append}
use Rattle.std.proofs.lemmas.List.FromFn.{get_or-range_with_len}
use Rattle.pdn_base.specs.declared.marks.Kind.{Kind}
use Rattle.pdn_base.specs.declared.marks.Kind.TheVariants as kind
use Rattle.pdn_base.specs.declared.value.Value.{Value}
use Rattle.pdn_circuit.specs.Plain.{lane_of, number_in}
use Rattle.pdn_obl_rows.specs.Lists.{PaddedList, width_of, widths, words_for, kind_at, word_planes, lane_in, number_at, value_of, cells_at, row_at, is_valid, valid_rows}
use Rattle.pdn_obl_rows.specs.Encoding.{IsOf, RowIsOf, RowsAreOf, word_of, planes_from, list_from}
use Rattle.pdn_obl_rows.proofs.CellLaws.{widths-cons, cells_one}
use Rattle.pdn_obl_rows.proofs.EncodingLaws.{planes_from-add, length-planes_from}
use Rattle.pdn_obl_rows.proofs.EncodingSteps.{range_more}
use Rattle.pdn_obl_rows.proofs.LaidLaws.{range-add}

-- the place of a word within its plane
pub place_within : (plane step at n : ℕ) → (plane + 1) * step ≤ n → at < step → plane * step + at < n
place_within plane step at n h k = omega (arith, add-mul plane 1 step)

pub planes_within : (first width total step n : ℕ) → first + width ≤ total → n ≡ total * step → (first + width) * step ≤ n
planes_within first width total step n h e = omega (arith, mul-le (first + width) step total step h (omega arith), e)

pub planes_few : (total step n : ℕ) → 0 < step → n ≡ total * step → total ≤ n
planes_few total step n h e = omega (arith, mul-le total 1 total step (omega arith) h, e)

-- ---- a number
abbrev pub lane_of_plane : List ℕ → ℕ → ℕ → ℕ → ℕ
lane_of_plane words step row plane = lane_of words (row % 64) (plane * step + row / 64)

pub planes_number : (words : List ℕ) (step row first width : ℕ) → row / 64 < step → number_at words (planes_from (first * step) step width) row ≡ word_of (lane_of_plane words step row) first width
unfolding word_of
planes_number words step row first zero h = refl
planes_number words step row first (suc width) h =
    let next : first * step + step ≡ (first + 1) * step = omega (arith, add-mul first 1 step) in
    ap₂ (λ a b. a + 2 * b)
    (ap (λ g. lane_of words (row % 64) g) (get_or-range_with_len (first * step) step (row / 64) 0 h ∙ omega arith))
    (ap (λ n. number_at words (planes_from n step width) row) next ∙ planes_number words step row (first + 1) width h)

-- ---- a row
pub row_next : (words : List ℕ) (row step plane k : ℕ) (kinds : List Kind) (old new whole : List Value) (v : Value) → k < length kinds → old ++ cells_at words row (drop k kinds) (planes_from (plane * step) step (widths (drop k kinds))) ≡ whole
    → new ≡ old ++ v ∷ [] → v ≡ value_of (kind_at kinds k) (number_at words (planes_from (plane * step) step (width_of (kind_at kinds k))) row)
    → new ++ cells_at words row (drop (k + 1) kinds) (planes_from ((plane + width_of (kind_at kinds k)) * step) step (widths (drop (k + 1) kinds))) ≡ whole
row_next words row step plane k kinds old new whole v h a e is =
    let kd : Kind = kind_at kinds k in
    let ks : List Kind = drop (k + 1) kinds in
    let w : ℕ = width_of kd in
    let ps : List (List ℕ) = planes_from (plane * step) step w in
    let at : plane * step + w * step ≡ (plane + w) * step = sym (add-mul plane w step) in
    let rest : List (List ℕ) = planes_from ((plane + w) * step) step (widths ks) in
    let opened : cells_at words row (drop k kinds) (planes_from (plane * step) step (widths (drop k kinds))) ≡ v ∷ cells_at words row ks rest
    = ap (λ (xs : List Kind). cells_at words row xs (planes_from (plane * step) step (widths xs))) (drop_more kinds k kind.Int h)
    ∙ ap (cells_at words row (kd ∷ ks)) (ap (planes_from (plane * step) step) (widths-cons kd ks) ∙ planes_from-add (plane * step) step w (widths ks) ∙ ap (λ n. ps ++ planes_from n step (widths ks)) at)
    ∙ cells_one words row kd ks ps rest (length-planes_from (plane * step) step w)
    ∙ ap (λ x. x ∷ cells_at words row ks rest) (sym is) in
    ap (λ (xs : List Value). xs ++ cells_at words row ks rest) e ∙ append_assoc old (v ∷ []) (cells_at words row ks rest) ∙ ap (λ (xs : List Value). old ++ xs) (sym opened) ∙ a

-- the value of a column, and those after it, are of their kinds
pub row_of : (words : List ℕ) (row step plane k : ℕ) (kinds : List Kind) → k < length kinds → RowIsOf (drop k kinds) (cells_at words row (drop k kinds) (planes_from (plane * step) step (widths (drop k kinds))))
    → IsOf (kind_at kinds k) (value_of (kind_at kinds k) (number_at words (planes_from (plane * step) step (width_of (kind_at kinds k))) row))
    × RowIsOf (drop (k + 1) kinds) (cells_at words row (drop (k + 1) kinds) (planes_from ((plane + width_of (kind_at kinds k)) * step) step (widths (drop (k + 1) kinds))))
row_of words row step plane k kinds h are =
    let kd : Kind = kind_at kinds k in
    let ks : List Kind = drop (k + 1) kinds in
    let w : ℕ = width_of kd in
    let ps : List (List ℕ) = planes_from (plane * step) step w in
    let at : plane * step + w * step ≡ (plane + w) * step = sym (add-mul plane w step) in
    let rest : List (List ℕ) = planes_from ((plane + w) * step) step (widths ks) in
    let opened : cells_at words row (kd ∷ ks) (planes_from (plane * step) step (widths (kd ∷ ks))) ≡ value_of kd (number_at words ps row) ∷ cells_at words row ks rest
    = ap (cells_at words row (kd ∷ ks)) (ap (planes_from (plane * step) step) (widths-cons kd ks) ∙ planes_from-add (plane * step) step w (widths ks) ∙ ap (λ n. ps ++ planes_from n step (widths ks)) at)
    ∙ cells_one words row kd ks ps rest (length-planes_from (plane * step) step w) in
    subst (λ (vs : List Value). RowIsOf (kd ∷ ks) vs) opened (subst (λ (xs : List Kind). RowIsOf xs (cells_at words row xs (planes_from (plane * step) step (widths xs)))) (drop_more kinds k kind.Int h) are)

-- the planes that are left
pub planes_left : (plane k : ℕ) (kinds : List Kind) (total : ℕ) → k < length kinds → plane + widths (drop k kinds) ≡ total → plane + width_of (kind_at kinds k) + widths (drop (k + 1) kinds) ≡ total
planes_left plane k kinds total h e = omega (arith, e, ap widths (drop_more kinds k kind.Int h), widths-cons (kind_at kinds k) (drop (k + 1) kinds))

-- ---- the valid rows
abbrev rows_to : List ℕ → PaddedList → ℕ → List (List Value)
rows_to words list n = map (row_at words list) (filter (is_valid words list) (range_with_len 0 n))

rows_one : (words : List ℕ) (list : PaddedList) (n : ℕ) → rows_to words list (n + 1) ≡ rows_to words list n ++ map (row_at words list) (filter (is_valid words list) (n ∷ []))
rows_one words list n =
    let z : 0 + n ≡ n = omega arith in
    ap (λ (xs : List ℕ). map (row_at words list) (filter (is_valid words list) xs)) (range_more 0 n ∙ ap (λ k. range_with_len 0 n ++ k ∷ []) z)
    ∙ ap (map (row_at words list)) (filter-append (is_valid words list) (range_with_len 0 n) (n ∷ []))
    ∙ map-append (row_at words list) (filter (is_valid words list) (range_with_len 0 n)) (filter (is_valid words list) (n ∷ []))

one_kept : (words : List ℕ) (list : PaddedList) (n : ℕ) (b : Bool) → is_valid words list n ≡ b → map (row_at words list) (filter (is_valid words list) (n ∷ [])) ≡ map (row_at words list) (cond b (n ∷ []) [])
one_kept words list n b e = ap (λ (c : Bool). map (row_at words list) (cond c (n ∷ []) [])) e

pub rows_valid : (words : List ℕ) (list : PaddedList) (n : ℕ) (old new : List (List Value)) (row : List Value) → is_valid words list n ≡ true → old ≡ rows_to words list n → new ≡ old ++ row ∷ [] → row ≡ row_at words list n → new ≡ rows_to words list (n + 1)
rows_valid words list n old new row v e d is = d ∙ ap₂ (λ (xs : List (List Value)) (r : List Value). xs ++ r ∷ []) e is ∙ sym (rows_one words list n ∙ ap (λ (xs : List (List Value)). rows_to words list n ++ xs) (one_kept words list n true v))

pub rows_invalid : (words : List ℕ) (list : PaddedList) (n : ℕ) (old : List (List Value)) → is_valid words list n ≡ false → old ≡ rows_to words list n → old ≡ rows_to words list (n + 1)
rows_invalid words list n old v e = e ∙ sym (rows_one words list n ∙ ap (λ (xs : List (List Value)). rows_to words list n ++ xs) (one_kept words list n false v) ∙ append-nil (rows_to words list n))

-- a valid row is one of the valid rows
pub valid_row_of : (words : List ℕ) (list : PaddedList) (n : ℕ) → RowsAreOf list.kinds (valid_rows words list) → n < list.len → is_valid words list n ≡ true → RowIsOf list.kinds (row_at words list n)
valid_row_of words list n are h v =
    let before : List (List Value) = rows_to words list n in
    let more : List (List Value) = map (row_at words list) (filter (is_valid words list) (range_with_len (n + 1) (list.len - (n + 1)))) in
    let count : n + 1 + (list.len - (n + 1)) ≡ list.len = omega arith in
    let z : 0 + (n + 1) ≡ n + 1 = omega arith in
    let all : valid_rows words list ≡ (before ++ row_at words list n ∷ []) ++ more
    = ap (rows_to words list) (sym count)
    ∙ ap (λ (xs : List ℕ). map (row_at words list) (filter (is_valid words list) xs)) (range-add 0 (n + 1) (list.len - (n + 1)) ∙ ap (λ k. range_with_len 0 (n + 1) ++ range_with_len k (list.len - (n + 1))) z)
    ∙ ap (map (row_at words list)) (filter-append (is_valid words list) (range_with_len 0 (n + 1)) (range_with_len (n + 1) (list.len - (n + 1))))
    ∙ map-append (row_at words list) (filter (is_valid words list) (range_with_len 0 (n + 1))) (filter (is_valid words list) (range_with_len (n + 1) (list.len - (n + 1))))
    ∙ ap (λ (xs : List (List Value)). xs ++ more) (rows_one words list n ∙ ap (λ (xs : List (List Value)). before ++ xs) (one_kept words list n true v)) in
    let seam : valid_rows words list ≡ before ++ row_at words list n ∷ more = all ∙ append_assoc before (row_at words list n ∷ []) more in
    subst (λ (r : List Value). RowIsOf list.kinds r) (ap (λ (rs : List (List Value)). slice_index_or rs (length before) []) seam ∙ get_or_at before (row_at words list n) more [] (length before) refl)
    (are.at (length before) (omega (arith, ap length seam, length-append before (row_at words list n ∷ more))))

-- its valid lane is the first plane's
pub valid_is : (words : List ℕ) (kinds : List Kind) (len row lane : ℕ) → row / 64 < words_for len → lane ≡ lane_of words (row % 64) (0 * words_for len + row / 64) → is_valid words (list_from 0 kinds len) row ≡ nat_eq lane 1
valid_is words kinds len row lane h e =
    let z : 0 + row / 64 ≡ 0 * words_for len + row / 64 = omega arith in
    sym (ap (λ n. nat_eq n 1) (e ∙ ap (λ g. lane_of words (row % 64) g) (sym (get_or-range_with_len 0 (words_for len) (row / 64) 0 h ∙ z))))

pub row_same : (words : List ℕ) (kinds : List Kind) (len row step : ℕ) → step ≡ words_for len → cells_at words row kinds (planes_from step step (widths kinds)) ≡ row_at words (list_from 0 kinds len) row
row_same words kinds len row step e =
    let z : words_for len ≡ 0 + words_for len = omega arith in
    ap (λ n. cells_at words row kinds (planes_from n n (widths kinds))) e ∙ ap (λ n. cells_at words row kinds (planes_from n (words_for len) (widths kinds))) z
