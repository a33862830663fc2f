-- One row against one word, and the counters once all rows came.
use Rattle.std.proofs.Common.{◌≡◌, ℕ, zero, suc, ◌+◌, ◌*◌, ◌/◌, ◌%◌, ◌^◌, ◌<◌, ◌≤◌, Bool, true, false, not, ◌&&◌, ◌||◌, cond, List, [], ◌∷◌, ◌++◌, length, get_or, map, filter, drop, replicate, refl, sym, ap, ap₂, ◌∙◌, subst, arith, append_assoc, append-nil, nat_eq, nat_le, Ordering, Less, Equal, Greater}
use Rattle.std.specs.Prelude.{slice_index, slice_index_or}
use Rattle.std.specs.List.{range_with_len, list_any, list_all, count_by, AllByRecursion}
use Rattle.std.specs.Int.{bit_at}
use Rattle.std.specs.Ordering.{nat_cmp, is_eq, is_lt, ordering_then, eq_by_cmp}
use Rattle.std.proofs.lemmas.Bool.{eq-eqb}
use Rattle.std.proofs.lemmas.List.{length-map, get_or-map}
use Rattle.pdn_base.specs.declared.marks.Kind.{Kind}
use Rattle.pdn_base.specs.declared.value.Value.{Value}
use Rattle.pdn_base.specs.declared.order.Key.{Key}
use Rattle.pdn_base.specs.Values.{value_cmp, cell, cut, same_row, keys_cmp, row_cmp}
use Rattle.pdn_base.proofs.RowLaws.{same_cells_is}
use Rattle.pdn_circuit.specs.Gates.{InputWords}
use Rattle.pdn_circuit.specs.Compare.{less_lane}
use Rattle.pdn_circuit.specs.Plain.{Yields, Ends, lane_of, number_in, truth}
use Rattle.pdn_circuit.proofs.PlainLaws.{yields-one, yields-gives, yields-then}
use Rattle.pdn_circuit.proofs.CompareLaws.{lane_of-lt, equal_is, less_is}
use Rattle.pdn_obl_rows.specs.Lists.{PaddedList, IsShaped, words_for, word_planes, number_at, width_of, cells_at, row_at, is_valid}
use Rattle.pdn_obl_rows.proofs.ConditionLaws.{both_true}
use Rattle.pdn_obl_rows.proofs.EncodingLaws.{word_bit}
use Rattle.pdn_obl_rows.proofs.OperatorLaws.{row_word}
use Rattle.pdn_obl_rows.proofs.RowsLaws.{valid_lane_is}
use Rattle.pdn_obl_group.specs.Loops.{spread_gates, each_word, in_turn, bits, no_count, count_planes, counts_column}
use Rattle.pdn_obl_group.proofs.LoopLaws.{KeptWords, kept_begin, turns_keep, words_keep, row_of_lane}
use Rattle.pdn_obl_group.proofs.CounterLaws.{Counts, counts_begin, counts_more, counts_all, bits_few, length-count_planes}
use Rattle.pdn_obl_rank.specs.Keys.{KeysFit, ascending, is_named, sort_key, compared_gates, place_of_key, planes_up, planes_down, row_columns, spread_used}
use Rattle.pdn_obl_rank.specs.Numbers.{Ranked, ranked_of, RowLanes, hit_gates, against_gates, row_gates}
use Rattle.pdn_obl_rank.proofs.OrderLaws.{sort_key_order}
use Rattle.pdn_obl_rank.proofs.KeyLaws.{Stands, AllStand, places_cmp, up_wide, up_same, down_wide, down_order}
use Rattle.pdn_obl_rank.proofs.SpreadLaws.{used_is, spread_is, Among, among_here, IsCompared, compared_is}

-- ---- all of a list
all_both : {X : Type 0} (P Q R : X → Type 0) → ((x : X) → P x → Q x → R x) → (xs : List X) → AllByRecursion P xs → AllByRecursion Q xs → AllByRecursion R xs
all_both P Q R f [] h k = tt
all_both P Q R f (x ∷ xs) h k = (f x h.0 k.0, all_both P Q R f xs h.1 k.1)

all_append : {X : Type 0} (P : X → Type 0) (xs ys : List X) → AllByRecursion P xs → AllByRecursion P ys → AllByRecursion P (xs ++ ys)
all_append P [] ys h k = k
all_append P (x ∷ xs) ys h k = (h.0, all_append P xs ys h.1 k)

all_map : {X Y : Type 0} (P : Y → Type 0) (f : X → Y) (xs : List X) → AllByRecursion (λ x. P (f x)) xs → AllByRecursion P (map f xs)
all_map P f [] h = tt
all_map P f (x ∷ xs) h = (h.0, all_map P f xs h.1)

used_here : (before : List ℕ) (p : ℕ) (after : List ℕ) → list_any (nat_eq p) (before ++ p ∷ after) ≡ true
used_here [] p after = ap (λ b. b || list_any (nat_eq p) after) (eq-eqb p p refl)
used_here (q ∷ qs) p after = more (nat_eq p q) (used_here qs p after)
  where
    more : (b : Bool) → list_any (nat_eq p) (qs ++ p ∷ after) ≡ true → (b || list_any (nat_eq p) (qs ++ p ∷ after)) ≡ true
    more true h = refl
    more false h = h

pub all_used : (used before ps after : List ℕ) → before ++ (ps ++ after) ≡ used → AllByRecursion (λ p. list_any (nat_eq p) used ≡ true) ps
all_used used before [] after e = tt
all_used used before (p ∷ ps) after e =
    (subst (λ (us : List ℕ). list_any (nat_eq p) us ≡ true) e (used_here before p (ps ++ after)), all_used used (before ++ p ∷ []) ps after (append_assoc before (p ∷ []) (ps ++ after) ∙ e))

-- ---- the key of a list's rows
truth-lt : (b : Bool) → truth b < 2
truth-lt true = omega arith
truth-lt false = omega arith

comes_lane : (o : Ordering) (tie : Bool) → less_lane o (truth tie) ≡ truth (is_lt o || (is_eq o && tie))
comes_lane Less tie = refl
comes_lane Equal tie = refl
comes_lane Greater tie = refl

-- row j comes before row i in its partition, or is equal and not later
abbrev pub comes_to : List ℕ → List Key → List Value → List Value → Bool → Bool
comes_to partition order y x tie = same_row (cut partition y) (cut partition x) && (is_lt (row_cmp order y x) || (is_eq (row_cmp order y x) && tie))

-- the same for a valid row j
abbrev pub counts_at : List ℕ → PaddedList → List ℕ → List Key → ℕ → ℕ → Bool
counts_at words list partition order i j = is_valid words list j && comes_to partition order (row_at words list j) (row_at words list i) (nat_le j i)

pub length-row : (words : List ℕ) (row : ℕ) (kinds : List Kind) (planes : List (List ℕ)) → length (cells_at words row kinds planes) ≡ length kinds
length-row words row [] planes = refl
length-row words row (k ∷ ks) planes = ap suc (length-row words row ks (drop (width_of k) planes))

-- ---- a column of counts
indexed : (from : ℕ) (whole xs : List ℕ) → ((k : ℕ) → k < length xs → get_or whole (from + k) 0 ≡ get_or xs k 0) → map (slice_index whole) (range_with_len from (length xs)) ≡ xs
indexed from whole [] h = refl
indexed from whole (x ∷ xs) h =
    let z : from ≡ from + 0 = omega arith in
    ap₂ (λ y ys. y ∷ ys) (ap (slice_index whole) z ∙ h 0 (omega arith))
    (indexed (from + 1) whole xs (λ k l. let e : from + 1 + k ≡ from + suc k = omega arith in ap (slice_index whole) e ∙ h (suc k) (omega arith)))

column_word : (w : ℕ) (counters : List (List ℕ)) (ps : List ℕ) → w < length counters
    → word_planes w (map (λ p. map (λ (counter : List ℕ). slice_index (count_planes counter) p) counters) ps) ≡ map (slice_index (count_planes (get_or counters w []))) ps
column_word w counters [] h = refl
column_word w counters (p ∷ ps) h = ap₂ (λ y ys. y ∷ ys) (get_or-map (λ (counter : List ℕ). slice_index (count_planes counter) p) counters w [] 0 h) (column_word w counters ps h)

-- word w of the column has the planes of the word's counter
counts_word : (w : ℕ) (counters : List (List ℕ)) → w < length counters → length (get_or counters w []) ≤ 32 → word_planes w (counts_column counters) ≡ count_planes (get_or counters w [])
counts_word w counters h few =
    let planes : List ℕ = count_planes (get_or counters w []) in
    let wide : length planes ≡ 32 = length-count_planes (get_or counters w []) few in
    column_word w counters (range_with_len 0 32) h
    ∙ ap (λ n. map (slice_index planes) (range_with_len 0 n)) (sym wide)
    ∙ indexed 0 planes planes (λ k l. let e : 0 + k ≡ k = omega arith in ap (λ n. get_or planes n 0) e)

module _ (inputs : InputWords) (words : List ℕ) (ends : Ends words) (list : PaddedList) (shaped : IsShaped list) (partition : List ℕ) (order : List Key) (fits : KeysFit (length list.kinds) partition order)
    (columns : List (List (List ℕ))) (compared : Yields inputs words (compared_gates list order) columns) where
  abbrev place : Key → ℕ
  place key = place_of_key (length list.kinds) order key

  abbrev Compared : Key → Type 0
  Compared key = IsCompared words list columns (place key) key

  named : (before ks : List Key) → before ++ ks ≡ order → AllByRecursion (λ (key : Key). key.column < length list.kinds) ks → AllByRecursion Compared ks
  named before [] e h = tt
  named before (k ∷ ks) e h = (
    compared_is inputs words ends list shaped order k h.0 (λ d. subst (λ (os : List Key). Among k os) e (among_here before k ks d)) compared,
    named (before ++ k ∷ []) ks (append_assoc before (k ∷ []) ks ∙ e) h.1,
  )

  own : (c : ℕ) → c < length list.kinds → Compared (ascending c)
  own c h = compared_is inputs words ends list shaped order (ascending c) h (λ d. absurd cc) compared

  remaining : (p : ℕ → Bool) (from count : ℕ) → from + count ≤ length list.kinds → AllByRecursion Compared (map ascending (filter p (range_with_len from count)))
  remaining p from zero h = tt
  remaining p from (suc count) h = step (p from) (own from (omega arith)) (remaining p (from + 1) count (omega arith))
    where
      step : (b : Bool) → Compared (ascending from) → AllByRecursion Compared (map ascending (filter p (range_with_len (from + 1) count)))
          → AllByRecursion Compared (map ascending (cond b (from ∷ filter p (range_with_len (from + 1) count)) (filter p (range_with_len (from + 1) count))))
      step true here rest = (here, rest)
      step false here rest = rest

  all_compared : AllByRecursion Compared (sort_key order (length list.kinds))
  all_compared = all_append Compared order _ (named [] order refl fits.keys) (remaining (λ c. not (is_named order c)) 0 (length list.kinds) (omega arith))

  abbrev ranked : Ranked
  ranked = ranked_of list partition order columns

  module _ (j i : ℕ) (low_j : j / 64 < words_for list.len) (low_i : i / 64 < words_for list.len) (row : List (List ℕ)) (spread_row : Yields inputs words (spread_used columns (ranked.partition ++ ranked.key) j) row) where
    abbrev x : List Value
    x = row_at words list i

    abbrev y : List Value
    y = row_at words list j

    abbrev column_order : ℕ → Ordering
    column_order p = nat_cmp (number_at words (slice_index_or columns p []) j) (number_at words (slice_index_or columns p []) i)

    abbrev row_at_place : ℕ → List ℕ
    row_at_place p = slice_index_or row p []

    abbrev word_at_place : ℕ → List ℕ
    word_at_place p = word_planes (i / 64) (slice_index_or columns p [])

    stands : (p : ℕ) → p < length columns → list_any (nat_eq p) (ranked.partition ++ ranked.key) ≡ true → Stands words (i % 64) (row_at_place p) (word_at_place p) (column_order p)
    stands p h u =
        let s = used_is columns (ranked.partition ++ ranked.key) j spread_row p h u in
        record {
          wide = s.wide ∙ sym (length-map (slice_index_or columns p []) (λ (plane : List ℕ). slice_index plane (i / 64)));
          order = ap (λ n. nat_cmp n (number_at words (slice_index_or columns p []) i)) (s.number (i % 64) (omega arith));
        }

    key_stands : AllStand words (i % 64) row_at_place word_at_place column_order ranked.key
    key_stands = all_both (λ p. p < length columns) (λ p. list_any (nat_eq p) (ranked.partition ++ ranked.key) ≡ true) _ stands ranked.key
        (all_map (λ p. p < length columns) place (sort_key order (length list.kinds)) (all_both Compared Compared (λ key. place key < length columns) (λ key c d. c.there) (sort_key order (length list.kinds)) all_compared all_compared))
        (all_used (ranked.partition ++ ranked.key) ranked.partition ranked.key [] (ap (λ (ps : List ℕ). ranked.partition ++ ps) (append-nil ranked.key)))

    partition_stands : AllStand words (i % 64) row_at_place word_at_place column_order partition
    partition_stands = all_both (λ p. p < length list.kinds) (λ p. list_any (nat_eq p) (ranked.partition ++ ranked.key) ≡ true) _ (λ p h u. let o = own p h in stands p o.there u) partition
        fits.parts (all_used (ranked.partition ++ ranked.key) [] partition ranked.key refl)

    keys_order : (ks : List Key) → AllByRecursion Compared ks → places_cmp column_order (map place ks) ≡ keys_cmp ks y x
    keys_order [] h = refl
    keys_order (k ∷ ks) h = let c = h.0 in ap₂ ordering_then (c.order j i low_j low_i) (keys_order ks h.1)

    cells_same : (ps : List ℕ) → AllByRecursion (λ p. p < length list.kinds) ps → list_all (λ p. is_eq (column_order p)) ps ≡ list_all (λ p. eq_by_cmp value_cmp (cell y p) (cell x p)) ps
    cells_same [] h = refl
    cells_same (p ∷ ps) h = let o = own p h.0 in ap₂ (λ a b. a && b) (ap is_eq (o.order j i low_j low_i)) (cells_same ps h.1)

    hit_is : (valid : ℕ) {hit : ℕ} → lane_of words (i % 64) valid ≡ truth (is_valid words list j) → Yields inputs words (hit_gates ranked valid (planes_up (row_columns row ranked.partition)) (planes_down (row_columns row ranked.key)) j (i / 64)) hit → lane_of words (i % 64) hit ≡ truth (counts_at words list partition order i j)
    hit_is valid {hit} v g =
        let lane : ℕ = i % 64 in
        let low : lane < 64 = omega arith in
        let a = yields-then _ _ g in
        let b = yields-then _ _ a.rest in
        let c = yields-then _ _ b.rest in
        let d = yields-then _ _ c.rest in
        let same : lane_of words lane a.x ≡ truth (same_row (cut partition y) (cut partition x))
        = equal_is lane low ends (planes_up (map row_at_place partition)) (planes_up (map word_at_place partition)) (up_wide words lane row_at_place word_at_place column_order partition partition_stands) a.first
        ∙ ap truth (up_same words lane row_at_place word_at_place column_order partition partition_stands ∙ cells_same partition fits.parts ∙ same_cells_is partition y x) in
        let at_row : 64 * (i / 64) + lane ≡ i = omega arith in
        let ties : lane_of words lane b.x ≡ truth (nat_le j i)
        = ap (λ n. bit_at n lane) (yields-one _ b.first) ∙ word_bit (λ row. truth (nat_le j row)) (64 * (i / 64)) 64 lane (λ row. truth-lt (nat_le j row)) low ∙ ap (λ n. truth (nat_le j n)) at_row in
        let before : lane_of words lane c.x ≡ truth (is_lt (row_cmp order y x) || (is_eq (row_cmp order y x) && nat_le j i))
        = less_is lane b.x (planes_down (map row_at_place ranked.key)) (planes_down (map word_at_place ranked.key)) (down_wide words lane row_at_place word_at_place column_order ranked.key key_stands) c.first
        ∙ ap₂ less_lane (down_order words lane row_at_place word_at_place column_order ranked.key key_stands ∙ keys_order (sort_key order (length list.kinds)) all_compared
        ∙ sort_key_order order (length list.kinds) y x (length-row words j list.kinds list.planes) (length-row words i list.kinds list.planes)) ties
        ∙ comes_lane (row_cmp order y x) (nat_le j i) in
        let both = both_true inputs words lane a.x c.x _ _ d.x same before d.first in
        both_true inputs words lane valid d.x _ _ hit v both d.rest

  abbrev test : ℕ → ℕ → Bool
  test = counts_at words list partition order

  -- row j against word w
  against_counts : (j w width valid : ℕ) (counter : List ℕ) (row : List (List ℕ)) {out : List ℕ} → j / 64 < words_for list.len → w < words_for list.len → Yields inputs words (spread_gates j list.valid) valid
      → Yields inputs words (spread_used columns (ranked.partition ++ ranked.key) j) row → Counts words width test j w counter → Yields inputs words (against_gates ranked valid (planes_up (row_columns row ranked.partition)) (planes_down (row_columns row ranked.key)) j w counter) out → Counts words width test (j + 1) w out
  against_counts j w width valid counter row low_j low_w spread_valid spread_row c y =
      let a = yields-then _ _ y in
      counts_more width test j w counter a.x c
      (λ lane l.
      let at = row_of_lane w lane l in
      let i : ℕ = 64 * w + lane in
      let v : lane_of words lane valid ≡ truth (is_valid words list j) = spread_is j list.valid lane l spread_valid ∙ valid_lane_is words list j (lane_of-lt words (j % 64) (slice_index list.valid (j / 64))) in
      let low_i : i / 64 < words_for list.len = subst (λ v. v < words_for list.len) (sym at.0) low_w in
      ap (λ k. lane_of words k a.x) (sym at.1)
      ∙ hit_is j i low_j low_i row spread_row valid (ap (λ k. lane_of words k valid) at.1 ∙ v) (subst (λ v. Yields inputs words (hit_gates ranked valid (planes_up (row_columns row ranked.partition)) (planes_down (row_columns row ranked.key)) j v) a.x) (sym at.0) a.first))
      a.rest

  -- row j against each word
  row_counts : (j width : ℕ) (counters : List (List ℕ)) {out : List (List ℕ)} → j / 64 < words_for list.len → KeptWords (words_for list.len) [] (Counts words width test j) counters → Yields inputs words (row_gates ranked j counters) out
      → KeptWords (words_for list.len) [] (Counts words width test (j + 1)) out
  row_counts j width counters {out} low_j k all =
      let a = yields-then _ _ all in
      let b = yields-then _ _ a.first in
      let c = yields-then _ _ b.rest in
      let part : List ℕ = planes_up (row_columns c.x ranked.partition) in
      let key : List ℕ = planes_down (row_columns c.x ranked.key) in
      let is : a.x ≡ record { valid = b.x; part = part; key = key } = yields-gives _ c.rest in
      words_keep [] [] (against_gates ranked b.x part key j) (words_for list.len) (Counts words width test j) (Counts words width test (j + 1))
      (λ w counter more h d z. against_counts j w width b.x counter c.x low_j h b.first c.first d z) k
      (subst (λ (l : RowLanes). Yields inputs words (each_word [] (against_gates ranked l.valid l.part l.key j) counters) out) is a.rest)

  pub all_counts : {counters : List (List ℕ)} → Yields inputs words (in_turn (row_gates ranked) 0 list.len (replicate (length list.valid) (no_count list.len))) counters
      → KeptWords (words_for list.len) [] (Counts words (bits list.len) test list.len) counters
  all_counts {counters} y =
      let P : ℕ → List (List ℕ) → Type 0 = λ j kept. j ≤ list.len → KeptWords (words_for list.len) [] (Counts words (bits list.len) test j) kept in
      let zero_is : 0 + list.len ≡ list.len = omega arith in
      let all : P (0 + list.len) counters
      = turns_keep (row_gates ranked) P (λ j a b p z h. row_counts j (bits list.len) a (row_word list.len j (omega arith)) (p (omega arith)) z) 0 list.len (replicate (length list.valid) (no_count list.len)) counters
      (λ h. subst (λ n. KeptWords (words_for list.len) [] (Counts words (bits list.len) test 0) (replicate n (no_count list.len))) (sym shaped.valid) (kept_begin (words_for list.len) [] (no_count list.len) (Counts words (bits list.len) test 0) (counts_begin (bits list.len) test ends))) y in
      subst (λ n. KeptWords (words_for list.len) [] (Counts words (bits list.len) test n) counters) zero_is (all (omega arith))

  -- in a row's lane the counters hold how many rows count at it
  pub counted : {counters : List (List ℕ)} → list.len < 2 ^ 32 → Yields inputs words (in_turn (row_gates ranked) 0 list.len (replicate (length list.valid) (no_count list.len))) counters → (i : ℕ) → i < list.len
      → number_at words (counts_column counters) i ≡ count_by (test i) (range_with_len 0 list.len)
  counted {counters} few y i h =
      let all = all_counts y in
      let w : ℕ = i / 64 in
      let low : w < words_for list.len = row_word list.len i h in
      let at_row : 64 * w + i % 64 ≡ i = omega arith in
      let c = all.at w low in
      ap (number_in words (i % 64)) (counts_word w counters (omega (arith, low, all.count)) (omega (arith, c.wide, bits_few list.len 32 few)))
      ∙ counts_all words test list.len w (get_or counters w []) (i % 64) (omega arith) ends c
      ∙ ap (λ k. count_by (test k) (range_with_len 0 list.len)) at_row
