-- A list's output words, read as a list again.
use Rattle.std.proofs.Common.{◌≡◌, ℕ, zero, suc, ◌+◌, ◌*◌, ◌/◌, ◌%◌, ◌<◌, List, [], ◌∷◌, ◌++◌, length, get_or, map, take, drop, refl, sym, ap, ap₂, ◌∙◌, arith, nat_eq, length-append, suc-mul, add-mul}
use Rattle.std.specs.Prelude.{slice_index}
use Rattle.std.specs.List.{range_with_len, flat_map}
use Rattle.std.specs.Int.{bit_at}
use Rattle.std.proofs.lemmas.List.{length-map, get_or_append_left, get_or-append-add, get_or-map}
use Rattle.std.proofs.lemmas.List.FromFn.{get_or-range_with_len}
use Rattle.pdn_base.specs.declared.marks.Kind.{Kind}
use Rattle.pdn_base.specs.declared.value.Value.{Value}
use Rattle.pdn_obl_rows.specs.Lists.{PaddedList, IsShaped, width_of, widths, words_for, plane_at, lane_in, number_at, value_of, cells_at, row_at, is_valid, valid_rows}
use Rattle.pdn_obl_rows.specs.Encoding.{planes_from, list_from, Stand}
use Rattle.pdn_obl_rows.proofs.EncodingLaws.{length-planes_from}
use Rattle.pdn_obl_rows.proofs.OperatorLaws.{row_word}
use Rattle.pdn_obl_rows.proofs.RowsLaws.{filter_range, map_filter_range}
use Rattle.pdn_site.specs.Laying.{list_words}
use Rattle.pdn_site.specs.Circuits.{list_gates}
use Rattle.pdn_site.specs.Meaning.{words_out, OutputMeans}

-- ---- rows whose lanes agree
Agree : List ℕ → List ℕ → ℕ → List (List ℕ) → List (List ℕ) → Type 0
Agree outs words row [] [] = Unit {0}
Agree outs words row [] (q ∷ qs) = ⊥
Agree outs words row (p ∷ ps) [] = ⊥
Agree outs words row (p ∷ ps) (q ∷ qs) = (lane_in outs p row ≡ lane_in words q row) × Agree outs words row ps qs

agree_from : (outs words : List ℕ) (row : ℕ) (ps qs : List (List ℕ)) → length ps ≡ length qs → ((p : ℕ) → p < length ps → lane_in outs (plane_at ps p) row ≡ lane_in words (plane_at qs p) row) → Agree outs words row ps qs
unfolding Agree
agree_from outs words row [] [] l h = tt
agree_from outs words row [] (q ∷ qs) l h = absurd (omega (arith, l))
agree_from outs words row (p ∷ ps) [] l h = absurd (omega (arith, l))
agree_from outs words row (p ∷ ps) (q ∷ qs) l h = (h 0 (omega arith), agree_from outs words row ps qs (omega (arith, l)) (λ k b. h (suc k) (omega arith)))

agree_take : (outs words : List ℕ) (row n : ℕ) (ps qs : List (List ℕ)) → Agree outs words row ps qs → Agree outs words row (take n ps) (take n qs)
unfolding Agree
agree_take outs words row zero ps qs h = tt
agree_take outs words row (suc n) [] [] h = tt
agree_take outs words row (suc n) [] (q ∷ qs) h = absurd h
agree_take outs words row (suc n) (p ∷ ps) [] h = absurd h
agree_take outs words row (suc n) (p ∷ ps) (q ∷ qs) h = (h.0, agree_take outs words row n ps qs h.1)

agree_drop : (outs words : List ℕ) (row n : ℕ) (ps qs : List (List ℕ)) → Agree outs words row ps qs → Agree outs words row (drop n ps) (drop n qs)
unfolding Agree
agree_drop outs words row zero ps qs h = h
agree_drop outs words row (suc n) [] [] h = tt
agree_drop outs words row (suc n) [] (q ∷ qs) h = absurd h
agree_drop outs words row (suc n) (p ∷ ps) [] h = absurd h
agree_drop outs words row (suc n) (p ∷ ps) (q ∷ qs) h = agree_drop outs words row n ps qs h.1

agree_number : (outs words : List ℕ) (row : ℕ) (ps qs : List (List ℕ)) → Agree outs words row ps qs → number_at outs ps row ≡ number_at words qs row
unfolding Agree
agree_number outs words row [] [] h = refl
agree_number outs words row [] (q ∷ qs) h = absurd h
agree_number outs words row (p ∷ ps) [] h = absurd h
agree_number outs words row (p ∷ ps) (q ∷ qs) h = ap₂ (λ a b. a + 2 * b) h.0 (agree_number outs words row ps qs h.1)

agree_cells : (outs words : List ℕ) (row : ℕ) (kinds : List Kind) (ps qs : List (List ℕ)) → Agree outs words row ps qs → cells_at outs row kinds ps ≡ cells_at words row kinds qs
agree_cells outs words row [] ps qs h = refl
agree_cells outs words row (k ∷ ks) ps qs h =
    ap₂ (λ (v : Value) (vs : List Value). v ∷ vs) (ap (value_of k) (agree_number outs words row (take (width_of k) ps) (take (width_of k) qs) (agree_take outs words row (width_of k) ps qs h)))
    (agree_cells outs words row ks (drop (width_of k) ps) (drop (width_of k) qs) (agree_drop outs words row (width_of k) ps qs h))

-- ---- planes one after the other
flat_at : (w : ℕ) (planes : List (List ℕ)) → ((p : ℕ) → p < length planes → length (plane_at planes p) ≡ w) → (p k : ℕ) → p < length planes → k < w → get_or (flat_map (λ plane. plane) planes) (p * w + k) 0 ≡ get_or (plane_at planes p) k 0
flat_at w [] h p k b l = absurd (omega arith)
flat_at w (x ∷ xs) h zero k b l =
    let e : 0 * w + k ≡ k = omega arith in
    ap (λ n. get_or (x ++ flat_map (λ plane. plane) xs) n 0) e ∙ get_or_append_left x (flat_map (λ plane. plane) xs) 0 k (omega (arith, h 0 (omega arith), l))
flat_at w (x ∷ xs) h (suc p) k b l =
    let here : length x ≡ w = h 0 (omega arith) in
    let e : suc p * w + k ≡ length x + (p * w + k) = simp suc-mul (omega (arith, here)) in
    ap (λ n. get_or (x ++ flat_map (λ plane. plane) xs) n 0) e ∙ get_or-append-add x (flat_map (λ plane. plane) xs) (p * w + k) 0
    ∙ flat_at w xs (λ q c. h (suc q) (omega arith)) p k (omega arith) l

flat_length : (w : ℕ) (planes : List (List ℕ)) → ((p : ℕ) → p < length planes → length (plane_at planes p) ≡ w) → length (flat_map (λ plane. plane) planes) ≡ length planes * w
flat_length w [] h = omega arith
flat_length w (x ∷ xs) h = simp suc-mul (omega (arith, length-append x (flat_map (λ plane. plane) xs), h 0 (omega arith), flat_length w xs (λ q c. h (suc q) (omega arith))))

from_at : (first w count p : ℕ) → p < count → plane_at (planes_from first w count) p ≡ range_with_len (first + p * w) w
from_at first w zero p h = absurd (omega arith)
from_at first w (suc count) zero h = let e : first ≡ first + 0 * w = omega arith in ap (λ n. range_with_len n w) e
from_at first w (suc count) (suc p) h =
    let e : first + w + p * w ≡ first + suc p * w = simp suc-mul (omega arith) in
    from_at (first + w) w count p (omega arith) ∙ ap (λ n. range_with_len n w) e

module _ (words : List ℕ) (list : PaddedList) (shaped : IsShaped list) (outs : List ℕ) (first : ℕ) (stand : Stand outs first (words_out words list)) where
  abbrev w : ℕ
  w = words_for list.len

  abbrev flat : List ℕ
  flat = flat_map (λ plane. plane) list.planes

  abbrev read : PaddedList
  read = list_from first list.kinds list.len

  word_out : (k : ℕ) → k < length (list_gates list) → slice_index outs (first + k) ≡ slice_index words (slice_index (list_gates list) k)
  word_out k h = stand.at k (omega (arith, h, length-map (list_gates list) (slice_index words))) ∙ get_or-map (slice_index words) (list_gates list) k 0 0 h

  total : length (list_gates list) ≡ w + length list.planes * w
  total = length-append list.valid flat ∙ ap₂ (λ a b. a + b) shaped.valid (flat_length w list.planes shaped.words)

  in_range : (from k : ℕ) → k < w → slice_index (range_with_len from w) k ≡ from + k
  in_range from k h = get_or-range_with_len from w k 0 h

  valid_word : (k : ℕ) → k < w → slice_index outs (slice_index (range_with_len first w) k) ≡ slice_index words (slice_index list.valid k)
  valid_word k h =
      ap (slice_index outs) (in_range first k h) ∙ word_out k (omega (arith, h, total))
      ∙ ap (slice_index words) (get_or_append_left list.valid flat 0 k (omega (arith, h, shaped.valid)))

  plane_word : (p k : ℕ) → p < length list.planes → k < w → slice_index outs (slice_index (range_with_len (first + w + p * w) w) k) ≡ slice_index words (slice_index (plane_at list.planes p) k)
  plane_word p k b h =
      let at : first + w + p * w + k ≡ first + (w + (p * w + k)) = omega arith in
      let place : length list.valid + (p * w + k) ≡ w + (p * w + k) = omega (arith, shaped.valid) in
      let inner : p * w + k < length list.planes * w = below p (length list.planes) b in
      ap (slice_index outs) (in_range (first + w + p * w) k h ∙ at) ∙ word_out (w + (p * w + k)) (omega (arith, total, inner))
      ∙ ap (slice_index words) (ap (slice_index (list_gates list)) (sym place) ∙ get_or-append-add list.valid flat (p * w + k) 0 ∙ flat_at w list.planes shaped.words p k b h)
    where
      below : (p n : ℕ) → p < n → p * w + k < n * w
      below p zero b = absurd (omega arith)
      below zero (suc n) b = simp suc-mul (omega (arith, h))
      below (suc p) (suc n) b = simp suc-mul (omega (arith, below p n (omega arith)))

  valid_same : (row : ℕ) → row < list.len → is_valid outs read row ≡ is_valid words list row
  valid_same row h = ap (λ n. nat_eq n 1) (ap (λ word. bit_at word (row % 64)) (valid_word (row / 64) (row_word list.len row h)))

  row_same : (row : ℕ) → row < list.len → row_at outs read row ≡ row_at words list row
  row_same row h =
      let count : length (planes_from (first + w) w (widths list.kinds)) ≡ length list.planes = length-planes_from (first + w) w (widths list.kinds) ∙ sym shaped.planes in
      agree_cells outs words row list.kinds (planes_from (first + w) w (widths list.kinds)) list.planes
      (agree_from outs words row (planes_from (first + w) w (widths list.kinds)) list.planes count
      (λ p b.
      let inside : p < length list.planes = omega (arith, b, count) in
      ap (λ (plane : List ℕ). lane_in outs plane row) (from_at (first + w) w (widths list.kinds) p (omega (arith, inside, shaped.planes)))
      ∙ ap (λ word. bit_at word (row % 64)) (plane_word p (row / 64) inside (row_word list.len row h))))

  pub output_is : valid_rows outs read ≡ valid_rows words list
  output_is =
      ap (map (row_at outs read)) (filter_range (is_valid outs read) (is_valid words list) 0 list.len (λ i h. valid_same i (omega (arith, h))))
      ∙ map_filter_range (row_at outs read) (row_at words list) (is_valid words list) 0 list.len (λ i h. row_same i (omega (arith, h)))

pub length-words_out : (words : List ℕ) (list : PaddedList) → IsShaped list → length (words_out words list) ≡ list_words list.kinds list.len
length-words_out words list shaped =
    let flat : List ℕ = flat_map (λ plane. plane) list.planes in
    let w : ℕ = words_for list.len in
    let e : length list.planes * w ≡ widths list.kinds * w = ap (λ n. n * w) shaped.planes in
    let d : widths list.kinds * w + w ≡ (widths list.kinds + 1) * w = simp add-mul (omega arith) in
    omega (arith, length-map (list_gates list) (slice_index words), length-append list.valid flat, shaped.valid, flat_length w list.planes shaped.words, e, d)

pub output_means : OutputMeans
output_means words list shaped outs first stand = output_is words list shaped outs first stand
