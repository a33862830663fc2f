-- The columns that are compared, under the words of their gates: one row's lanes spread, and columns inverted.
use Rattle.std.proofs.Common.{◌≡◌, ℕ, suc, ◌+◌, ◌-◌, ◌/◌, ◌%◌, ◌^◌, ◌<◌, Bool, true, false, cond, List, [], ◌∷◌, ◌++◌, length, get_or, map, filter, refl, sym, ap, ap₂, ◌∙◌, subst, arith, length-append, pow-suc, nat_eq}
use Rattle.std.specs.Prelude.{slice_index, slice_index_or}
use Rattle.std.specs.List.{range_with_len, list_any}
use Rattle.std.specs.Int.{bit_at}
use Rattle.std.specs.Ordering.{nat_cmp}
use Rattle.std.proofs.lemmas.Bool.{eqb-true, eq-eqb}
use Rattle.std.proofs.lemmas.List.{get_or_append_left, get_or-append-add}
use Rattle.std.proofs.lemmas.List.FromFn.{get_or-range_with_len, length-range_with_len, get_or-map-range_with_len, length-map-range_with_len}
use Rattle.pdn_base.specs.declared.marks.Kind.{Kind}
use Rattle.pdn_base.specs.declared.order.Key.{Key}
use Rattle.pdn_base.specs.Bags.{times, TestsEquality}
use Rattle.pdn_base.specs.Values.{value_cmp, cell, directed, key_cmp}
use Rattle.pdn_base.proofs.WordLaws.{bit_at-spread}
use Rattle.pdn_base.proofs.BagLaws.{times-distinct, times-cons}
use Rattle.pdn_circuit.specs.Gates.{InputWords}
use Rattle.pdn_circuit.specs.Blocks.{Making, each}
use Rattle.pdn_circuit.specs.Compare.{not_gates}
use Rattle.pdn_circuit.specs.Plain.{Yields, Ends, lane_of, number_in}
use Rattle.pdn_circuit.proofs.PlainLaws.{yields-one, yields-gives, yields-then, yields-each}
use Rattle.pdn_circuit.proofs.CompareLaws.{lane_of-lt, not_is}
use Rattle.pdn_obl_rows.specs.Lists.{PaddedList, IsShaped, words_for, plane_at, kind_at, column_planes, word_planes, lane_in, number_at, row_at}
use Rattle.pdn_obl_rows.proofs.CellLaws.{cell_is}
use Rattle.pdn_obl_rows.proofs.ShapeLaws.{AllLong, long_take, long_drop}
use Rattle.pdn_obl_group.specs.Loops.{spread_gates}
use Rattle.pdn_obl_group.proofs.LoopLaws.{number_is}
use Rattle.pdn_obl_rank.specs.Keys.{down_columns, own_columns, inverted_gates, compared_gates, place_among, place_of_key, spread_column, spread_used}
use Rattle.pdn_obl_rank.proofs.OrderLaws.{inverted_order, value_order}

-- ---- one row's lanes in every lane
-- a used column of the row has the column's lanes of row j
pub record IsSpread (words : List ℕ) (columns : List (List (List ℕ))) (j : ℕ) (row : List (List ℕ)) (place : ℕ) : Type 0 where
  pub wide : length (slice_index_or row place []) ≡ length (slice_index_or columns place [])
  pub number : (lane : ℕ) → lane < 64 → number_in words lane (slice_index_or row place []) ≡ number_at words (slice_index_or columns place []) j

module _ {inputs : InputWords} {words : List ℕ} where
  pub spread_is : (j : ℕ) (plane : List ℕ) (lane : ℕ) {g : ℕ} → lane < 64 → Yields inputs words (spread_gates j plane) g → lane_of words lane g ≡ lane_in words plane j
  spread_is j plane lane low y = ap (λ n. bit_at n lane) (yields-one _ y) ∙ bit_at-spread (slice_index words (slice_index plane (j / 64))) (j % 64) lane low

  spread_number : (j lane : ℕ) (planes : List (List ℕ)) {gs : List ℕ} → lane < 64 → Yields inputs words (each (spread_gates j) planes) gs → number_in words lane gs ≡ number_at words planes j
  spread_number j lane planes {gs} low y =
      let all = yields-each (spread_gates j) planes gs y in
      number_is words j lane planes gs all.count (λ p h. spread_is j (plane_at planes p) lane low (all.at p [] 0 h))

  pub used_is : (columns : List (List (List ℕ))) (used : List ℕ) (j : ℕ) {row : List (List ℕ)} → Yields inputs words (spread_used columns used j) row
      → (place : ℕ) → place < length columns → list_any (nat_eq place) used ≡ true → IsSpread words columns j row place
  used_is columns used j {row} y place h u =
      let f : ℕ → Making (List ℕ) = λ place. spread_column (list_any (nat_eq place) used) (slice_index_or columns place []) j in
      let all = yields-each f (range_with_len 0 (length columns)) row y in
      let same : get_or (range_with_len 0 (length columns)) place 0 ≡ place = get_or-range_with_len 0 (length columns) place 0 h ∙ omega arith in
      let here : Yields inputs words (f place) (slice_index_or row place []) = subst (λ p. Yields inputs words (f p) (slice_index_or row place [])) same (all.at place 0 [] (omega (arith, length-range_with_len 0 (length columns)))) in
      let spread_here : Yields inputs words (each (spread_gates j) (slice_index_or columns place [])) (slice_index_or row place [])
      = subst (λ b. Yields inputs words (spread_column b (slice_index_or columns place []) j) (slice_index_or row place [])) u here in
      let each_here = yields-each (spread_gates j) (slice_index_or columns place []) (slice_index_or row place []) spread_here in
      record { wide = each_here.count; number = λ lane low. spread_number j lane (slice_index_or columns place []) low spread_here }

  -- ---- inverted columns
  inverted_number : (lane w : ℕ) → lane < 64 → Ends words → (planes : List (List ℕ)) {out : List (List ℕ)} → ((p : ℕ) → p < length planes → w < length (plane_at planes p)) → Yields inputs words (each (λ plane. each not_gates plane) planes) out
      → number_in words lane (word_planes w planes) + number_in words lane (word_planes w out) + 1 ≡ 2 ^ length planes
  inverted_number lane w low ends [] h y = ap (λ (out : List (List ℕ)). 0 + number_in words lane (word_planes w out) + 1) (yields-gives _ y)
  inverted_number lane w low ends (p ∷ ps) {out} h y =
      let a = yields-then _ _ y in
      let b = yields-then _ _ a.rest in
      let all = yields-each not_gates p a.x a.first in
      let here : lane_of words lane (slice_index a.x w) ≡ 1 - lane_of words lane (slice_index p w) = not_is lane low ends (slice_index p w) (all.at w 0 0 (h 0 (omega arith))) in
      let rest = inverted_number lane w low ends ps (λ q l. h (suc q) (omega arith)) b.first in
      ap (λ (out : List (List ℕ)). number_in words lane (word_planes w (p ∷ ps)) + number_in words lane (word_planes w out) + 1) (yields-gives _ b.rest)
      ∙ omega (arith, here, rest, lane_of-lt words lane (slice_index p w), pow-suc 2 (length ps))

-- ---- where a descending column's inverted planes stand
nat-tests : TestsEquality nat_eq
nat-tests = record { itself = λ x. eq-eqb x x refl; equal = eqb-true }

find : (c : ℕ) (ds : List ℕ) → 0 < times nat_eq c ds → (place_among c ds < length ds) × (get_or ds (place_among c ds) 0 ≡ c)
find c [] h = absurd (omega arith)
find c (d ∷ ds) h = step (nat_eq c d) refl (find c ds)
  where
    step : (b : Bool) → nat_eq c d ≡ b → (0 < times nat_eq c ds → (place_among c ds < length ds) × (get_or ds (place_among c ds) 0 ≡ c))
        → (cond b 0 (1 + place_among c ds) < suc (length ds)) × (get_or (d ∷ ds) (cond b 0 (1 + place_among c ds)) 0 ≡ c)
    step true e rest = (omega arith, sym (eqb-true c d e))
    step false e rest =
        let r = rest (omega (arith, h, times-cons nat_eq c d ds ∙ ap (λ b. cond b 1 0 + times nat_eq c ds) e)) in
        let low = r.0 in
        let q : suc (place_among c ds) ≡ 1 + place_among c ds = omega arith in
        (omega (arith, low), ap (λ k. get_or (d ∷ ds) k 0) (sym q) ∙ r.1)

-- a key of the order that goes down names a descending column
abbrev pub Among : Key → List Key → Type 0
Among key order = 0 < times nat_eq key.column (map (λ (k : Key). k.column) (filter (λ (k : Key). k.down) order))

pub found_down : (order : List Key) (key : Key) → Among key order → (place_among key.column (down_columns order) < length (down_columns order)) × (get_or (down_columns order) (place_among key.column (down_columns order)) 0 ≡ key.column)
found_down order key h = find key.column (down_columns order) (omega (arith, h, times-distinct nat-tests key.column (map (λ (k : Key). k.column) (filter (λ (k : Key). k.down) order))))

pub among_here : (before : List Key) (key : Key) (after : List Key) → key.down ≡ true → Among key (before ++ key ∷ after)
among_here [] key after d =
    let c : ℕ = key.column in
    let names : List Key → List ℕ = λ ks. map (λ (k : Key). k.column) (filter (λ (k : Key). k.down) ks) in
    let e : names (key ∷ after) ≡ c ∷ names after = ap (λ b. map (λ (k : Key). k.column) (cond b (key ∷ filter (λ (k : Key). k.down) after) (filter (λ (k : Key). k.down) after))) d in
    omega (arith, ap (times nat_eq c) e, times-cons nat_eq c c (names after) ∙ ap (λ b. cond b 1 0 + times nat_eq c (names after)) (eq-eqb c c refl))
among_here (k ∷ ks) key after d = more k.down (among_here ks key after d)
  where
    more : (b : Bool) → Among key (ks ++ key ∷ after)
        → 0 < times nat_eq key.column (map (λ (k : Key). k.column) (cond b (k ∷ filter (λ (k : Key). k.down) (ks ++ key ∷ after)) (filter (λ (k : Key). k.down) (ks ++ key ∷ after))))
    more true h = omega (arith, h, times-cons nat_eq key.column k.column (map (λ (k : Key). k.column) (filter (λ (k : Key). k.down) (ks ++ key ∷ after))))
    more false h = h

-- ---- a compared column orders rows as its key does
pub record IsCompared (words : List ℕ) (list : PaddedList) (columns : List (List (List ℕ))) (place : ℕ) (key : Key) : Type 0 where
  pub there : place < length columns
  pub order : (j i : ℕ) → j / 64 < words_for list.len → i / 64 < words_for list.len
      → nat_cmp (number_at words (slice_index_or columns place []) j) (number_at words (slice_index_or columns place []) i) ≡ key_cmp key (row_at words list j) (row_at words list i)

length-own : (list : PaddedList) → length (own_columns list) ≡ length list.kinds
length-own list = length-map-range_with_len (λ column. column_planes list.kinds column list.planes) 0 (length list.kinds)

own_at : (list : PaddedList) (rest : List (List (List ℕ))) (c : ℕ) → c < length list.kinds → slice_index_or (own_columns list ++ rest) c [] ≡ column_planes list.kinds c list.planes
own_at list rest c h =
    get_or_append_left (own_columns list) rest [] c (omega (arith, length-own list))
    ∙ get_or-map-range_with_len (λ column. column_planes list.kinds column list.planes) 0 (length list.kinds) c c [] h (omega arith)

module _ (words : List ℕ) (list : PaddedList) where
  own_order : (c j i : ℕ) → c < length list.kinds
      → nat_cmp (number_at words (column_planes list.kinds c list.planes) j) (number_at words (column_planes list.kinds c list.planes) i) ≡ value_cmp (cell (row_at words list j) c) (cell (row_at words list i) c)
  own_order c j i h =
      let k : Kind = kind_at list.kinds c in
      sym (ap₂ value_cmp (cell_is words j list.kinds list.planes c h) (cell_is words i list.kinds list.planes c h)
      ∙ value_order k (number_at words (column_planes list.kinds c list.planes) j) (number_at words (column_planes list.kinds c list.planes) i))

  pub own_compared : (rest : List (List (List ℕ))) (c : ℕ) → c < length list.kinds → IsCompared words list (own_columns list ++ rest) c (record { column = c; down = false })
  own_compared rest c h = record {
    there = omega (arith, h, length-append (own_columns list) rest, length-own list);
    order = λ j i a b. ap (λ (ps : List (List ℕ)). nat_cmp (number_at words ps j) (number_at words ps i)) (own_at list rest c h) ∙ own_order c j i h;
  }

module _ (inputs : InputWords) (words : List ℕ) (ends : Ends words) (list : PaddedList) (shaped : IsShaped list) where
  inverted_sum : (c row : ℕ) {out : List (List ℕ)} → row / 64 < words_for list.len → Yields inputs words (inverted_gates list c) out
      → number_at words (column_planes list.kinds c list.planes) row + number_at words out row + 1 ≡ 2 ^ length (column_planes list.kinds c list.planes)
  inverted_sum c row h y =
      let planes : List (List ℕ) = column_planes list.kinds c list.planes in
      let long : AllLong (words_for list.len) planes = long_take (words_for list.len) _ _ (long_drop (words_for list.len) _ list.planes (record { at = shaped.words })) in
      inverted_number (row % 64) (row / 64) (omega arith) ends planes (λ p l. omega (arith, long.at p l, h)) y

  inverted_compared : (order : List Key) (key : Key) {inverted : List (List (List ℕ))} → key.column < length list.kinds → key.down ≡ true → Among key order → Yields inputs words (each (inverted_gates list) (down_columns order)) inverted
      → IsCompared words list (own_columns list ++ inverted) (length list.kinds + place_among key.column (down_columns order)) key
  inverted_compared order key {inverted} h down among y =
      let c : ℕ = key.column in
      let q : ℕ = place_among c (down_columns order) in
      let found = found_down order key among in
      let all = yields-each (inverted_gates list) (down_columns order) inverted y in
      let low = found.0 in
      let at : slice_index_or (own_columns list ++ inverted) (length list.kinds + q) [] ≡ slice_index_or inverted q []
      = ap (λ n. slice_index_or (own_columns list ++ inverted) (n + q) []) (sym (length-own list)) ∙ get_or-append-add (own_columns list) inverted q [] in
      let here : Yields inputs words (inverted_gates list c) (slice_index_or inverted q []) = subst (λ d. Yields inputs words (inverted_gates list d) (slice_index_or inverted q [])) found.1 (all.at q 0 [] low) in
      let number : ℕ → ℕ = number_at words (slice_index_or inverted q []) in
      let own : ℕ → ℕ = number_at words (column_planes list.kinds c list.planes) in
      let top : ℕ = 2 ^ length (column_planes list.kinds c list.planes) in
      record {
        there = omega (arith, low, all.count, length-append (own_columns list) inverted, length-own list);
        order = λ j i a b.
            ap (λ (ps : List (List ℕ)). nat_cmp (number_at words ps j) (number_at words ps i)) at
            ∙ inverted_order (top - 1) (own j) (own i) (number j) (number i) (omega (arith, inverted_sum c j a here)) (omega (arith, inverted_sum c i b here))
            ∙ own_order words list c i j h
            ∙ ap (λ d. directed d value_cmp (cell (row_at words list j) c) (cell (row_at words list i) c)) (sym down);
      }

  pub compared_is : (order : List Key) (key : Key) {columns : List (List (List ℕ))} → key.column < length list.kinds → (key.down ≡ true → Among key order) → Yields inputs words (compared_gates list order) columns
      → IsCompared words list columns (place_of_key (length list.kinds) order key) key
  compared_is order key {columns} h among y =
      let a = yields-then _ _ y in
      subst (λ (cs : List (List (List ℕ))). IsCompared words list cs (place_of_key (length list.kinds) order key) key) (sym (yields-gives _ a.rest))
      (step key.down refl a.x a.first)
    where
      step : (b : Bool) → key.down ≡ b → (inverted : List (List (List ℕ))) → Yields inputs words (each (inverted_gates list) (down_columns order)) inverted
          → IsCompared words list (own_columns list ++ inverted) (place_of_key (length list.kinds) order key) key
      step true e inverted z =
          subst (λ d. IsCompared words list (own_columns list ++ inverted) (cond d (length list.kinds + place_among key.column (down_columns order)) key.column) key) (sym e)
          (inverted_compared order key h e (among e) z)
      step false e inverted z =
          let o = own_compared words list inverted key.column h in
          subst (λ d. IsCompared words list (own_columns list ++ inverted) (cond d (length list.kinds + place_among key.column (down_columns order)) key.column) key) (sym e)
          (record { there = o.there; order = λ j i a b. o.order j i a b ∙ ap (λ d. directed d value_cmp (cell (row_at words list j) key.column) (cell (row_at words list i) key.column)) (sym e) })
