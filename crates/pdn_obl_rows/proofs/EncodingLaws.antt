-- Encoded rows, read back.
use Rattle.std.proofs.Common.{◌≡◌, ℕ, zero, suc, ◌+◌, ◌-◌, ◌*◌, ◌/◌, ◌%◌, ◌^◌, ◌<◌, ◌≤◌, Bool, true, false, cond, ltb, List, [], ◌∷◌, ◌++◌, length, get_or, map, drop, filter, refl, sym, ap, ap₂, ◌∙◌, subst, arith, length-append, pow-suc, suc-mul, add-mul, ⊎_elim}
use Rattle.std.specs.Prelude.{slice_index, slice_index_or, nat_lt}
use Rattle.std.specs.Int.{bit_at}
use Rattle.std.specs.List.{range_with_len, flat_map}
use Rattle.std.proofs.lemmas.Bool.{cases_lt, cond-true, cond-false, lt-ltb, le-ltb}
use Rattle.std.proofs.lemmas.List.{get_or_append_left, get_or_at, get_or-append-add, get_or-drop, drop-drop, ext_get_or}
use Rattle.std.proofs.lemmas.List.FromFn.{get_or-range_with_len, length-range_with_len, get_or-map-range_with_len, length-map-range_with_len}
use Rattle.std.proofs.lemmas.Nat.Bits.{bit_at-lt, bit_at-zero, bit_at-suc, bit_at_lowest}
use Rattle.pdn_base.specs.declared.marks.Kind.{Kind}
use Rattle.pdn_base.specs.declared.marks.Kind.TheVariants as kind
use Rattle.pdn_base.specs.declared.value.Value.{Value}
use Rattle.pdn_base.specs.declared.value.Value.TheVariants as value
use Rattle.pdn_base.specs.Values.{number_of, cell}
use Rattle.pdn_circuit.specs.Plain.{lane_of, number_in, truth}
use Rattle.pdn_obl_rows.specs.Lists.{PaddedList, width_of, widths, words_for, word_planes, lane_in, number_at, value_of, cells_at, row_at, is_valid, valid_rows}
use Rattle.pdn_obl_rows.specs.Encoding.{IsOf, RowIsOf, RowsAreOf, word_of, plane_words, valid_lane, bit_lane, column_words, columns_words, encoded, planes_from, list_from, Stand}
use Rattle.pdn_obl_rows.proofs.CellLaws.{widths-cons, cells_one}
use Rattle.pdn_obl_rows.proofs.RowsLaws.{filter_range, map_filter_range, valid_from}

-- ---- words from lanes
half : (a b : ℕ) → a < 2 → (a + 2 * b) / 2 ≡ b
half a b h = omega arith

pub word_bit : (f : ℕ → ℕ) (from count i : ℕ) → ((j : ℕ) → f j < 2) → i < count → bit_at (word_of f from count) i ≡ f (from + i)
unfolding word_of
word_bit f from zero i b h = absurd (omega arith)
word_bit f from (suc count) zero b h =
    let low : bit_at (f from + 2 * word_of f (from + 1) count) 0 ≡ f from = omega (arith, bit_at_lowest (f from + 2 * word_of f (from + 1) count), b from) in
    low ∙ ap f (let e : from ≡ from + 0 = omega arith in e)
word_bit f from (suc count) (suc i) b h =
    bit_at-suc (f from + 2 * word_of f (from + 1) count) i ∙ ap (λ n. bit_at n i) (half (f from) (word_of f (from + 1) count) (b from))
    ∙ word_bit f (from + 1) count i b (omega arith) ∙ ap f (let e : from + 1 + i ≡ from + suc i = omega arith in e)

word_same : (f g : ℕ → ℕ) (from count : ℕ) → ((i : ℕ) → f i ≡ g i) → word_of f from count ≡ word_of g from count
unfolding word_of
word_same f g from zero h = refl
word_same f g from (suc count) h = ap₂ (λ a b. a + 2 * b) (h from) (word_same f g (from + 1) count h)

word_shift : (f : ℕ → ℕ) (from count : ℕ) → word_of f (from + 1) count ≡ word_of (λ i. f (suc i)) from count
unfolding word_of
word_shift f from zero = refl
word_shift f from (suc count) = ap₂ (λ a b. a + 2 * b) (ap f (omega arith)) (word_shift f (from + 1) count)

-- a number from its bits
pub bits_back : (width number : ℕ) → number < 2 ^ width → word_of (bit_at number) 0 width ≡ number
unfolding word_of
bits_back zero number h = omega arith
bits_back (suc width) number h =
    ap (λ n. bit_at number 0 + 2 * n) (word_shift (bit_at number) 0 width ∙ word_same (λ i. bit_at number (suc i)) (bit_at (number / 2)) 0 width (bit_at-suc number) ∙ bits_back width (number / 2) (omega (arith, pow-suc 2 width)))
    ∙ omega (arith, bit_at_lowest number)

-- ---- where words stand
pub stand_first : (words : List ℕ) (first : ℕ) (xs ys : List ℕ) → Stand words first (xs ++ ys) → Stand words first xs
stand_first words first xs ys s = record { at = λ k h. s.at k (omega (arith, length-append xs ys)) ∙ get_or_append_left xs ys 0 k h }

pub stand_rest : (words : List ℕ) (first : ℕ) (xs ys : List ℕ) → Stand words first (xs ++ ys) → Stand words (first + length xs) ys
stand_rest words first xs ys s = record {
  at = λ k h. ap (slice_index words) (omega arith) ∙ s.at (length xs + k) (omega (arith, length-append xs ys)) ∙ get_or-append-add xs ys k 0;
}

-- ---- a plane
pub length-plane_words : (f : ℕ → ℕ) (len : ℕ) → length (plane_words f len) ≡ words_for len
length-plane_words f len = length-map-range_with_len (λ j. word_of f (64 * j) 64) 0 (words_for len)

row_word : (len row : ℕ) → row < len → row / 64 < words_for len
unfolding words_for
row_word len row h = omega arith

pub plane_is : (words : List ℕ) (first len row : ℕ) (f : ℕ → ℕ) → ((j : ℕ) → f j < 2) → row < len → Stand words first (plane_words f len) → lane_in words (range_with_len first (words_for len)) row ≡ f row
plane_is words first len row f b h s =
    let j : ℕ = row / 64 in
    let within : j < words_for len = row_word len row h in
    let gate : slice_index (range_with_len first (words_for len)) j ≡ first + j = get_or-range_with_len first (words_for len) j 0 within in
    let there : slice_index words (first + j) ≡ word_of f (64 * j) 64
    = s.at j (omega (arith, length-plane_words f len)) ∙ get_or-map-range_with_len (λ i. word_of f (64 * i) 64) 0 (words_for len) j j 0 within (omega arith) in
    ap (lane_of words (row % 64)) gate ∙ ap (λ n. bit_at n (row % 64)) there ∙ word_bit f (64 * j) 64 (row % 64) b (omega arith) ∙ ap f (omega arith)

-- ---- planes one after the other
pub length-planes_from : (first m count : ℕ) → length (planes_from first m count) ≡ count
length-planes_from first m zero = refl
length-planes_from first m (suc count) = ap suc (length-planes_from (first + m) m count)

pub planes_from-add : (first m i j : ℕ) → planes_from first m (i + j) ≡ planes_from first m i ++ planes_from (first + i * m) m j
planes_from-add first m zero j =
    let e : 0 + j ≡ j = omega arith in
    let f : first ≡ first + 0 * m = omega arith in
    ap (planes_from first m) e ∙ ap (λ n. planes_from n m j) f
planes_from-add first m (suc i) j =
    let e : suc i + j ≡ suc (i + j) = omega arith in
    let f : first + m + i * m ≡ first + suc i * m = simp suc-mul (omega arith) in
    ap (planes_from first m) e ∙ ap (λ (ps : List (List ℕ)). range_with_len first m ∷ ps) (planes_from-add (first + m) m i j ∙ ap (λ n. planes_from (first + m) m i ++ planes_from n m j) f)

-- the words of so many planes
abbrev pub many_words : (ℕ → ℕ → ℕ) → ℕ → ℕ → ℕ → List ℕ
many_words g len from count = flat_map (λ bit. plane_words (g bit) len) (range_with_len from count)

pub length-many_words : (g : ℕ → ℕ → ℕ) (len from count : ℕ) → length (many_words g len from count) ≡ count * words_for len
length-many_words g len from zero = omega arith
length-many_words g len from (suc count) =
    length-append (plane_words (g from) len) (many_words g len (from + 1) count) ∙ simp suc-mul (omega (arith, length-plane_words (g from) len, length-many_words g len (from + 1) count))

pub number_is : (words : List ℕ) (len row : ℕ) (g : ℕ → ℕ → ℕ) (first from count : ℕ) → ((bit j : ℕ) → g bit j < 2) → row < len → Stand words first (many_words g len from count)
    → number_at words (planes_from first (words_for len) count) row ≡ word_of (λ bit. g bit row) from count
unfolding word_of
number_is words len row g first from zero b h s = refl
number_is words len row g first from (suc count) b h s =
    let one : List ℕ = plane_words (g from) len in
    let more : List ℕ = many_words g len (from + 1) count in
    ap₂ (λ u v. u + 2 * v) (plane_is words first len row (g from) (b from) h (stand_first words first one more s))
    (number_is words len row g (first + words_for len) (from + 1) count b h (subst (λ n. Stand words (first + n) more) (length-plane_words (g from) len) (stand_rest words first one more s)))

-- ---- rows
number_fits : (k : Kind) (v : Value) → IsOf k v → number_of v < 2 ^ width_of k
number_fits kind.Int (value.Int n) h = h
number_fits kind.Int (value.Code c) h = absurd h
number_fits kind.Code (value.Int n) h = absurd h
number_fits kind.Code (value.Code c) h = h.0

value_back : (k : Kind) (v : Value) → IsOf k v → value_of k (number_of v) ≡ v
value_back kind.Int (value.Int n) h = refl
value_back kind.Int (value.Code c) h = absurd h
value_back kind.Code (value.Int n) h = absurd h
value_back kind.Code (value.Code c) h = refl

pub cells_back : (words : List ℕ) (rows : List (List Value)) (len row : ℕ) → row < len → (kinds : List Kind) (first column : ℕ) (vs : List Value) → drop column (slice_index_or rows row []) ≡ vs → RowIsOf kinds vs
    → Stand words first (columns_words rows len column kinds) → cells_at words row kinds (planes_from first (words_for len) (widths kinds)) ≡ vs
cells_back words rows len row h [] first column [] e r s = refl
cells_back words rows len row h [] first column (v ∷ vs) e r s = absurd r
cells_back words rows len row h (k ∷ ks) first column [] e r s = absurd r
cells_back words rows len row h (k ∷ ks) first column (v ∷ vs) e r s =
    let here : List Value = slice_index_or rows row [] in
    let m : ℕ = words_for len in
    let w : ℕ = width_of k in
    let own : List ℕ = many_words (bit_lane rows column) len 0 w in
    let more : List ℕ = columns_words rows len (column + 1) ks in
    let value_is : cell here column ≡ v = ap (get_or here column) refl ∙ ap (λ n. get_or here n (value.Int 0)) (omega arith) ∙ sym (get_or-drop column here 0 (value.Int 0)) ∙ ap (λ (xs : List Value). get_or xs 0 (value.Int 0)) e in
    let rest_is : drop (column + 1) here ≡ vs = sym (drop-drop 1 column here) ∙ ap (drop 1) e in
    let number : number_at words (planes_from first m w) row ≡ number_of v
    = number_is words len row (bit_lane rows column) first 0 w (λ bit j. bit_at-lt (number_of (cell (slice_index_or rows j []) column)) bit) h (stand_first words first own more s)
    ∙ ap (λ x. word_of (bit_at (number_of x)) 0 w) value_is ∙ bits_back w (number_of v) (number_fits k v r.0) in
    ap (cells_at words row (k ∷ ks)) (ap (planes_from first m) (widths-cons k ks) ∙ planes_from-add first m w (widths ks))
    ∙ cells_one words row k ks (planes_from first m w) (planes_from (first + w * m) m (widths ks)) (length-planes_from first m w)
    ∙ ap₂ (λ x xs. x ∷ xs) (ap (value_of k) number ∙ value_back k v r.0)
    (cells_back words rows len row h ks (first + w * m) (column + 1) vs rest_is r.1
    (subst (λ n. Stand words (first + n) more) (length-many_words (bit_lane rows column) len 0 w) (stand_rest words first own more s)))

filter_below : (n from count : ℕ) → n ≤ from + count → filter (λ i. nat_lt i n) (range_with_len from count) ≡ range_with_len from (n - from)
filter_below n from zero h = ap (range_with_len from) (let e : 0 ≡ n - from = omega arith in e)
filter_below n from (suc count) h = ⊎_elim
    (λ l. cond-true (ltb from n) _ _ (lt-ltb from n l) ∙ ap (λ (xs : List ℕ). from ∷ xs) (filter_below n (from + 1) count (omega arith)) ∙ ap (range_with_len from) (let e : suc (n - (from + 1)) ≡ n - from = omega arith in e))
    (λ l. cond-false (ltb from n) _ _ (le-ltb from n l) ∙ filter_below n (from + 1) count (omega arith) ∙ (let e : n - (from + 1) ≡ n - from = omega arith in ap (λ k. range_with_len (from + 1) k) e ∙ empty (n - from) (omega arith)))
    (cases_lt from n)
  where
    empty : (k : ℕ) → k ≡ 0 → range_with_len (from + 1) k ≡ range_with_len from k
    empty zero e = refl
    empty (suc k) e = absurd (omega arith)

truth-lt : (b : Bool) → truth b < 2
truth-lt true = omega arith
truth-lt false = omega arith

-- words that hold encoded rows, read as the list of their gates, give the rows
pub encoded_means : (words : List ℕ) (first : ℕ) (rows : List (List Value)) (kinds : List Kind) (len : ℕ) → RowsAreOf kinds rows → length rows ≤ len → Stand words first (encoded rows kinds len)
    → valid_rows words (list_from first kinds len) ≡ rows
encoded_means words first rows kinds len are few s =
    let list : PaddedList = list_from first kinds len in
    let n : ℕ = length rows in
    let own : List ℕ = plane_words (valid_lane rows) len in
    let more : List ℕ = columns_words rows len 0 kinds in
    let there : Stand words (first + words_for len) more = subst (λ k. Stand words (first + k) more) (length-plane_words (valid_lane rows) len) (stand_rest words first own more s) in
    let valid : (i : ℕ) → i < len → is_valid words list i ≡ nat_lt i n
    = λ i h. valid_from words list i (nat_lt i n) (plane_is words first len i (valid_lane rows) (λ j. truth-lt (nat_lt j n)) h (stand_first words first own more s)) in
    let at : (i : ℕ) → i < n → row_at words list i ≡ slice_index_or rows i []
    = λ i h. cells_back words rows len i (omega arith) kinds (first + words_for len) 0 (slice_index_or rows i []) refl (are.at i h) there in
    ap (map (row_at words list)) (filter_range (is_valid words list) (λ i. nat_lt i n) 0 len (λ i h. valid i (omega arith)) ∙ filter_below n 0 len (omega arith))
    ∙ ext_get_or [] (map (row_at words list) (range_with_len 0 (n - 0))) rows (length-map-range_with_len (row_at words list) 0 (n - 0) ∙ omega arith)
    (λ i h. let within : i < n - 0 = omega (arith, length-map-range_with_len (row_at words list) 0 (n - 0)) in
    get_or-map-range_with_len (row_at words list) 0 (n - 0) i i [] within (omega arith) ∙ at i (omega arith))

pub encoded_back : (words : List ℕ) (rows : List (List Value)) (kinds : List Kind) (len : ℕ) → RowsAreOf kinds rows → length rows ≤ len → words ≡ encoded rows kinds len → valid_rows words (list_from 0 kinds len) ≡ rows
encoded_back words rows kinds len are few e = encoded_means words 0 rows kinds len are few (record {
  at = λ k h. let at : 0 + k ≡ k = omega arith in ap (slice_index words) at ∙ ap (λ (xs : List ℕ). slice_index xs k) e;
})

length-columns : (rows : List (List Value)) (len column : ℕ) (kinds : List Kind) → length (columns_words rows len column kinds) ≡ widths kinds * words_for len
length-columns rows len column [] = omega arith
length-columns rows len column (k ∷ ks) =
    length-append (column_words rows len column (width_of k)) (columns_words rows len (column + 1) ks)
    ∙ ap₂ (λ a b. a + b) (length-many_words (bit_lane rows column) len 0 (width_of k)) (length-columns rows len (column + 1) ks)
    ∙ sym (add-mul (width_of k) (widths ks) (words_for len)) ∙ ap (λ n. n * words_for len) (sym (widths-cons k ks))

pub length-encoded : (rows : List (List Value)) (kinds : List Kind) (len : ℕ) → length (encoded rows kinds len) ≡ (widths kinds + 1) * words_for len
length-encoded rows kinds len =
    omega (arith, length-append (plane_words (valid_lane rows) len) (columns_words rows len 0 kinds), length-plane_words (valid_lane rows) len, length-columns rows len 0 kinds, add-mul (widths kinds) 1 (words_for len))

-- ---- rows of kinds, one more
pub rows_none : (kinds : List Kind) (rows : List (List Value)) → rows ≡ [] → RowsAreOf kinds rows
rows_none kinds rows e = record { at = λ i h. absurd (omega (arith, ap length e)) }

pub rows_more : (kinds : List Kind) (old new : List (List Value)) (row : List Value) → RowsAreOf kinds old → RowIsOf kinds row → new ≡ old ++ row ∷ [] → RowsAreOf kinds new
rows_more kinds old new row are is e = subst (λ (rows : List (List Value)). RowsAreOf kinds rows) (sym e) (record {
  at = λ i h. ⊎_elim
      (λ l. subst (λ (r : List Value). RowIsOf kinds r) (sym (get_or_append_left old (row ∷ []) [] i l)) (are.at i l))
      (λ l. let at : length old ≡ i = omega (arith, length-append old (row ∷ [])) in subst (λ (r : List Value). RowIsOf kinds r) (sym (get_or_at old row [] [] i at)) is)
      (cases_lt i (length old));
})
