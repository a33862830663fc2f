-- What the gates of top come to.
use Rattle.std.proofs.Common.{◌≡◌, ℕ, zero, suc, ◌+◌, ◌/◌, ◌%◌, ◌^◌, ◌<◌, ◌≤◌, min, Bool, true, false, cond, List, [], ◌∷◌, ◌++◌, length, get_or, map, filter, take, refl, sym, ap, ap₂, ◌∙◌, subst, arith, true≢false, nat_eq, Option, Some, None, length-append}
use Rattle.std.specs.Prelude.{nat_lt, slice_index}
use Rattle.std.specs.List.{range_with_len}
use Rattle.std.proofs.lemmas.Bool.{eqb-true, ltb-false}
use Rattle.std.proofs.lemmas.List.{length-map, take_all, get_or_at}
use Rattle.pdn_obl_rows.proofs.ShapeLaws.{AllLong, long_none, long_append}
use Rattle.std.proofs.lemmas.List.FromFn.{get_or-range_with_len, length-range_with_len, length-map-range_with_len}
use Rattle.std.proofs.lemmas.List.Sums.{length-filter, count_by-le-length, sum_by-append}
use Rattle.pdn_base.specs.declared.marks.Kind.TheVariants as kind
use Rattle.pdn_base.specs.declared.value.Value.{Value}
use Rattle.pdn_base.specs.declared.order.Key.{Key}
use Rattle.pdn_base.specs.Values.{cut, same_row}
use Rattle.pdn_base.specs.Operators.{SameRows, filter_rows, project_rows, number_rows, listed, top_rows}
use Rattle.pdn_base.proofs.BagLaws.{SameBag-from_perm}
use Rattle.pdn_base.proofs.Perms.{Perm-length}
use Rattle.pdn_base.proofs.Listing.{listed-rows}
use Rattle.pdn_circuit.specs.Gates.{InputWords}
use Rattle.pdn_circuit.specs.Blocks.{each}
use Rattle.pdn_circuit.specs.Plain.{Yields, Ends, lane_of}
use Rattle.pdn_circuit.proofs.PlainLaws.{yields-gives, yields-then, yields-each}
use Rattle.pdn_circuit.proofs.CompareLaws.{and_is, lane_of-lt}
use Rattle.pdn_obl_rows.specs.Lists.{PaddedList, IsShaped, width_of, words_for, plane_at, kind_at, lane_in, row_at, is_valid, valid_rows}
use Rattle.pdn_obl_rows.specs.Conditions.{CondFits}
use Rattle.pdn_obl_rows.specs.Operators.{with_valid}
use Rattle.pdn_obl_rows.proofs.LaidLaws.{same_from, same_cells}
use Rattle.pdn_obl_rows.proofs.OperatorLaws.{filter_means, row_word, map_after}
use Rattle.pdn_obl_group.specs.Loops.{count_planes, counts_column}
use Rattle.pdn_obl_rank.specs.Keys.{KeysFit}
use Rattle.pdn_obl_rank.specs.Numbers.{with_counts}
use Rattle.pdn_obl_rank.specs.Tops.{within, first_gates, limit_gates, kept_gates, cleared_gates}
use Rattle.pdn_obl_rank.specs.Means.{LimitFits, IsTop, TopMeans}
use Rattle.pdn_obl_rank.proofs.CountLaws.{length-row, all_counts}
use Rattle.pdn_obl_rank.proofs.PlaceLaws.{number_list, count_row}
use Rattle.pdn_obl_rank.proofs.FirstLaws.{AllWide, cut_back, first_bag}

-- ---- cleared planes
-- planes whose lanes are those of the others where a row is valid, and else none
pub record IsCleared (words : List ℕ) (count : ℕ) (valid : List ℕ) (planes out : List (List ℕ)) : Type 0 where
  pub as_many : length out ≡ length planes
  pub long : (p : ℕ) → p < length planes → length (plane_at out p) ≡ count
  pub lanes : (p row : ℕ) → p < length planes → row / 64 < count → lane_in words (plane_at out p) row ≡ min (lane_in words valid row) (lane_in words (plane_at planes p) row)

module _ {inputs : InputWords} {words : List ℕ} where
  cleared_lane : (valid plane : List ℕ) (row : ℕ) {out : List ℕ} → row / 64 < length plane → Yields inputs words (cleared_gates valid plane) out → lane_in words out row ≡ min (lane_in words valid row) (lane_in words plane row)
  cleared_lane valid plane row {out} h y =
      let n : ℕ = length plane in
      let all = yields-each _ (range_with_len 0 n) out y in
      let at : get_or (range_with_len 0 n) (row / 64) 0 ≡ row / 64 = get_or-range_with_len 0 n (row / 64) 0 h ∙ omega arith in
      and_is (row % 64) _ _ (all.at (row / 64) 0 0 (omega (arith, h, length-range_with_len 0 n)))
      ∙ ap (λ w. min (lane_of words (row % 64) (slice_index valid w)) (lane_of words (row % 64) (slice_index plane w))) at

  cleared_is : (count : ℕ) (valid : List ℕ) (planes : List (List ℕ)) {out : List (List ℕ)} → ((p : ℕ) → p < length planes → length (plane_at planes p) ≡ count) → Yields inputs words (each (cleared_gates valid) planes) out → IsCleared words count valid planes out
  cleared_is count valid planes {out} long y =
      let all = yields-each (cleared_gates valid) planes out y in
      record {
        as_many = all.count;
        long = λ p h.
            let here = yields-each _ (range_with_len 0 (length (plane_at planes p))) (plane_at out p) (all.at p [] [] h) in
            here.count ∙ length-range_with_len 0 (length (plane_at planes p)) ∙ long p h;
        lanes = λ p row h l. cleared_lane valid (plane_at planes p) row (omega (arith, l, long p h)) (all.at p [] [] h);
      }

-- a map over what a test chose
map_chosen : {X : Type 0} (f g : ℕ → X) (p : ℕ → Bool) (from count : ℕ) → ((i : ℕ) → i < from + count → p i ≡ true → f i ≡ g i) → map f (filter p (range_with_len from count)) ≡ map g (filter p (range_with_len from count))
map_chosen f g p from zero h = refl
map_chosen {X} f g p from (suc count) h = step (p from) refl (map_chosen f g p (from + 1) count (λ i l e. h i (omega arith) e))
  where
    step : (b : Bool) → p from ≡ b → map f (filter p (range_with_len (from + 1) count)) ≡ map g (filter p (range_with_len (from + 1) count))
        → map f (cond b (from ∷ filter p (range_with_len (from + 1) count)) (filter p (range_with_len (from + 1) count))) ≡ map g (cond b (from ∷ filter p (range_with_len (from + 1) count)) (filter p (range_with_len (from + 1) count)))
    step true e rest = ap₂ (λ x xs. x ∷ xs) (h from (omega arith) e) rest
    step false e rest = rest

lane_zero : (n : ℕ) → n < 2 → nat_eq n 1 ≡ false → n ≡ 0
lane_zero zero h e = refl
lane_zero (suc zero) h e = absurd (true≢false e)
lane_zero (suc (suc n)) h e = absurd (omega arith)

rows_wide : (words : List ℕ) (list : PaddedList) (rows : List ℕ) → AllWide (length list.kinds) (map (row_at words list) rows)
rows_wide words list [] = tt
rows_wide words list (r ∷ rs) = (length-row words r list.kinds list.planes, rows_wide words list rs)

-- ---- the shape of a list with a column of counts
column_long : (counters : List (List ℕ)) (ps : List ℕ) → AllLong (length counters) (map (λ p. map (λ (counter : List ℕ). slice_index (count_planes counter) p) counters) ps)
column_long counters [] = long_none (length counters)
column_long counters (p ∷ ps) = long_append (length counters) _ _ (long_one (map (λ (counter : List ℕ). slice_index (count_planes counter) p) counters) (length-map counters (λ (counter : List ℕ). slice_index (count_planes counter) p))) (column_long counters ps)
  where
    long_one : (plane : List ℕ) → length plane ≡ length counters → AllLong (length counters) (plane ∷ [])
    long_one plane e = record { at = λ k h. step k h }
      where
        step : (k : ℕ) → k < 1 → length (plane_at (plane ∷ []) k) ≡ length counters
        step zero h = e
        step (suc k) h = absurd (omega arith)

pub counts_shaped : (list : PaddedList) (counters : List (List ℕ)) → IsShaped list → length counters ≡ words_for list.len → IsShaped (with_counts list counters)
counts_shaped list counters s e =
    let column : AllLong (words_for list.len) (counts_column counters) = subst (λ n. AllLong n (counts_column counters)) e (column_long counters (range_with_len 0 32)) in
    let long = long_append (words_for list.len) list.planes (counts_column counters) (record { at = s.words }) column in
    record {
      valid = s.valid;
      planes = omega (arith, length-append list.planes (counts_column counters), length-map-range_with_len (λ p. map (λ (counter : List ℕ). slice_index (count_planes counter) p) counters) 0 32, s.planes, sum_by-append width_of list.kinds (kind.Int ∷ []));
      words = long.at;
    }

-- the condition on a row's number fits the last column
pub fits_limit : (list : PaddedList) (limit : ℕ) → limit < 2 ^ 32 → CondFits (list.kinds ++ kind.Int ∷ []) (within (length list.kinds) limit)
fits_limit list limit h =
    let own : kind_at (list.kinds ++ kind.Int ∷ []) (length list.kinds) ≡ kind.Int = get_or_at list.kinds kind.Int [] kind.Int (length list.kinds) refl in (
      (
        record {
          left = record { there = omega (arith, length-append list.kinds (kind.Int ∷ [])); kind = refl; plus = tt };
          right = (own, h);
        },
        tt,
      ),
      tt,
    )

module _ (inputs : InputWords) (words : List ℕ) (ends : Ends words) (list : PaddedList) (shaped : IsShaped list) (few : list.len < 2 ^ 32) (order : List Key) (fits : KeysFit (length list.kinds) [] order) where
  abbrev rows : List (List Value)
  rows = valid_rows words list

  abbrev n : ℕ
  n = length list.kinds

  -- the valid plane that a limit leaves
  record IsKept (limit : Option ℕ) (kept : List ℕ) : Type 0 where
    rows : SameRows (valid_rows words (with_valid list kept)) (top_rows order limit rows)
    wide : length kept ≡ words_for list.len

  kept_none : SameRows rows (listed order rows)
  kept_none = SameBag-from_perm same_row (listed-rows order rows)

  few_rows : length (listed order rows) ≤ list.len
  few_rows =
      let chosen : List ℕ = filter (is_valid words list) (range_with_len 0 list.len) in
      omega (arith, sym (Perm-length (listed-rows order rows)), length-map chosen (row_at words list), length-filter (is_valid words list) (range_with_len 0 list.len), count_by-le-length (is_valid words list) (range_with_len 0 list.len), length-range_with_len 0 list.len)

  kept_all : (limit : ℕ) → list.len ≤ limit → SameRows rows (take limit (listed order rows))
  kept_all limit h = subst (λ (xs : List (List Value)). SameRows rows xs) (sym (take_all limit (listed order rows) (omega (arith, h, few_rows)))) kept_none

  kept_first : (limit : ℕ) → limit < 2 ^ 32 → {kept : List ℕ} → Yields inputs words (first_gates list order limit) kept → IsKept (Some limit) kept
  kept_first limit h {kept} y =
      let a = yields-then _ _ y in
      let b = yields-then _ _ a.rest in
      let c = yields-then _ _ a.first in
      let d = yields-then _ _ c.rest in
      let e = yields-then _ _ b.first in
      let counters = all_counts inputs words ends list shaped [] order fits c.x c.first d.first in
      let numbered : a.x ≡ with_counts list d.x = yields-gives _ d.rest in
      let filtered : b.x ≡ with_valid a.x e.x = yields-gives _ e.rest in
      let valid : kept ≡ e.x = yields-gives _ b.rest ∙ ap (λ (l : PaddedList). l.valid) filtered in
      let shape : IsShaped a.x = subst (λ (l : PaddedList). IsShaped l) (sym numbered) (counts_shaped list d.x shaped counters.count) in
      let conds : CondFits a.x.kinds (within n limit) = subst (λ (l : PaddedList). CondFits l.kinds (within n limit)) (sym numbered) (fits_limit list limit h) in
      let chosen : valid_rows words b.x ≡ filter_rows (within n limit) (number_rows [] order rows)
      = filter_means inputs words ends a.x shape (within n limit) conds b.first ∙ ap (filter_rows (within n limit)) (number_list inputs words ends list shaped few [] order fits a.first) in
      let out : b.x ≡ with_valid (with_counts list d.x) kept = filtered ∙ ap₂ (λ (l : PaddedList) (v : List ℕ). with_valid l v) numbered (sym valid) in
      let cut_to : valid_rows words (with_valid list kept) ≡ project_rows (range_with_len 0 n) (valid_rows words b.x)
      = map_after (row_at words list) (cut (range_with_len 0 n)) (row_at words (with_counts list d.x))
      (λ i. sym (ap (cut (range_with_len 0 n)) (count_row inputs words ends list shaped few [] order fits d.x i) ∙ cut_back n (row_at words list i) _ (length-row words i list.kinds list.planes)))
      (filter (is_valid words (with_valid list kept)) (range_with_len 0 list.len))
      ∙ ap (λ (l : PaddedList). project_rows (range_with_len 0 n) (valid_rows words l)) (sym out) in
      let many = yields-each _ (range_with_len 0 (length a.x.valid)) e.x e.first in
      record {
        rows = subst (λ (xs : List (List Value)). SameRows xs (take limit (listed order rows))) (sym (cut_to ∙ ap (project_rows (range_with_len 0 n)) chosen)) (first_bag order n limit rows (rows_wide words list _));
        wide = ap length valid ∙ many.count ∙ length-range_with_len 0 (length a.x.valid) ∙ ap (λ (l : PaddedList). length l.valid) numbered ∙ shaped.valid;
      }

  kept_limit : (limit : ℕ) → limit < 2 ^ 32 → (b : Bool) → nat_lt limit list.len ≡ b → {kept : List ℕ} → Yields inputs words (limit_gates b list order limit) kept → IsKept (Some limit) kept
  kept_limit limit h true e y = kept_first limit h y
  kept_limit limit h false e y =
      subst (λ (v : List ℕ). IsKept (Some limit) v) (sym (yields-gives _ y)) (record { rows = kept_all limit (ltb-false limit list.len e); wide = shaped.valid })

  kept_is : (limit : Option ℕ) → LimitFits limit → {kept : List ℕ} → Yields inputs words (kept_gates list order limit) kept → IsKept limit kept
  kept_is None h y = subst (λ (v : List ℕ). IsKept None v) (sym (yields-gives _ y)) (record { rows = kept_none; wide = shaped.valid })
  kept_is (Some limit) h y = kept_limit limit h (nat_lt limit list.len) refl y

  module _ (limit : Option ℕ) (kept : List ℕ) (is : IsKept limit kept) (planes : List (List ℕ)) (cleared : IsCleared words (words_for list.len) kept list.planes planes) where
    abbrev result : PaddedList
    result = record { len = list.len; valid = kept; kinds = list.kinds; planes = planes }

    stays : (row : ℕ) → row < list.len → is_valid words result row ≡ true → row_at words result row ≡ row_at words list row
    stays row h v =
        let low : row / 64 < words_for list.len = row_word list.len row h in
        let set : lane_in words kept row ≡ 1 = eqb-true (lane_in words kept row) 1 v in
        same_cells words row row list.kinds planes list.planes (same_from words row row planes list.planes cleared.as_many
        (λ p l. cleared.lanes p row (omega (arith, l, cleared.as_many)) low ∙ omega (arith, set, lane_of-lt words (row % 64) (slice_index (plane_at list.planes p) (row / 64)))))

    top_is : IsTop words list order limit result
    top_is = record {
      rows = subst (λ (xs : List (List Value)). SameRows xs (top_rows order limit rows)) (sym (map_chosen (row_at words result) (row_at words list) (is_valid words result) 0 list.len (λ i h v. stays i (omega (arith, h)) v))) is.rows;
      len = refl;
      kinds = refl;
      stay = stays;
      clear = λ p row h l v.
          let zero_lane : lane_in words kept row ≡ 0 = lane_zero (lane_in words kept row) (lane_of-lt words (row % 64) (slice_index kept (row / 64))) v in
          cleared.lanes p row (omega (arith, h, cleared.as_many)) l ∙ omega (arith, zero_lane);
    }

pub top_means : TopMeans
top_means inputs words ends list shaped few order fits limit h out y =
    let a = yields-then _ _ y in
    let b = yields-then _ _ a.rest in
    let kept = kept_is inputs words ends list shaped few order fits limit h a.first in
    let cleared = cleared_is (words_for list.len) a.x list.planes shaped.words b.first in
    subst (λ (o : PaddedList). IsTop words list order limit o) (sym (yields-gives _ b.rest)) (top_is inputs words ends list shaped few order fits limit a.x kept b.x cleared)
