-- The columns and the length of what each operator gives.
use Rattle.std.proofs.Common.{◌≡◌, ℕ, zero, suc, ◌+◌, ◌*◌, ◌/◌, ◌%◌, ◌^◌, ◌<◌, Bool, true, false, cond, List, [], ◌∷◌, ◌++◌, length, map, refl, sym, ap, ap₂, ◌∙◌, subst, arith, length-append, Option, Some, None}
use Rattle.std.specs.Prelude.{nat_lt}
use Rattle.std.specs.List.{range_with_len, AllByRecursion}
use Rattle.std.proofs.lemmas.List.{length-map, length-replicate}
use Rattle.std.proofs.lemmas.List.FromFn.{length-range_with_len}
use Rattle.std.proofs.lemmas.List.Sums.{sum_by-append}
use Rattle.pdn_base.specs.declared.marks.Kind.{Kind}
use Rattle.pdn_base.specs.declared.marks.Kind.TheVariants as kind
use Rattle.pdn_base.specs.declared.value.Value.{Value}
use Rattle.pdn_base.specs.declared.order.Key.{Key}
use Rattle.pdn_base.specs.declared.cond.Cmp.{Cmp}
use Rattle.pdn_circuit.specs.Gates.{InputWords}
use Rattle.pdn_circuit.specs.Blocks.{Making, gives, each, add_bit_gates}
use Rattle.pdn_circuit.specs.Plain.{Yields}
use Rattle.pdn_circuit.proofs.PlainLaws.{yields-gives, yields-then, yields-each}
use Rattle.pdn_obl_rows.specs.Lists.{PaddedList, IsShaped, width_of, widths, words_for, plane_at, kind_at}
use Rattle.pdn_obl_rows.specs.Operators.{with_valid, filter_gates, projected, side_by_side, join_gates}
use Rattle.pdn_obl_rows.proofs.CellLaws.{widths-cons}
use Rattle.pdn_obl_rows.proofs.JoinLaws.{laid_is, side_shaped}
use Rattle.pdn_obl_rows.proofs.ShapeLaws.{AllLong, long_append, projected_shaped}
use Rattle.pdn_obl_group.specs.Loops.{in_turn, bits, no_count, count_planes}
use Rattle.pdn_obl_group.specs.Operators.{Seen, none_seen, distinct_row, distinct_gates, group_row, group_gates, first_mentions, count_row, count_gates, one_row, value_gates, cut_distinct_gates, cut_group_row, cut_group_gates}
use Rattle.pdn_obl_group.proofs.LoopLaws.{turns_keep}
use Rattle.pdn_obl_group.proofs.TallyLaws.{single}
use Rattle.pdn_obl_group.proofs.CounterLaws.{bits_few, length-count_planes}
use Rattle.pdn_obl_rank.specs.Numbers.{with_counts, ranked_of, row_gates, number_gates}
use Rattle.pdn_obl_rank.specs.Tops.{within, first_gates, limit_gates, kept_gates, cleared_gates, top_gates}
use Rattle.pdn_obl_rank.proofs.TopLaws.{counts_shaped}

-- a list of these columns and this length
pub record HasShape (list : PaddedList) (columns : List Kind) (count : ℕ) : Type 0 where
  pub shaped : IsShaped list
  pub kinds : list.kinds ≡ columns
  pub len : list.len ≡ count

with_valid_shape : (list : PaddedList) (valid : List ℕ) → IsShaped list → length valid ≡ words_for list.len → HasShape (with_valid list valid) list.kinds list.len
with_valid_shape list valid s e = record { shaped = record { valid = e; planes = s.planes; words = s.words }; kinds = refl; len = refl }

-- ---- lists of one row
one_word : words_for 1 ≡ 1
unfolding words_for
one_word = refl

long_one_row : (gates : List ℕ) → AllLong 1 (one_row gates)
long_one_row gates = record { at = λ p h. at gates p (omega (arith, h, length-map gates (λ (gate : ℕ). gate ∷ []))) }
  where
    at : (gates : List ℕ) (p : ℕ) → p < length gates → length (plane_at (one_row gates) p) ≡ 1
    at [] p h = absurd (omega arith)
    at (g ∷ gs) zero h = refl
    at (g ∷ gs) (suc p) h = at gs p (omega arith)

single_shape : (valid : ℕ) (kinds : List Kind) (planes : List (List ℕ)) → length planes ≡ widths kinds → AllLong 1 planes → HasShape (single (valid ∷ []) kinds planes) kinds 1
single_shape valid kinds planes e long = record {
  shaped = record { valid = sym one_word; planes = e; words = λ p h. long.at p h ∙ sym one_word };
  kinds = refl;
  len = refl;
}

counted_shape : (list : PaddedList) (counters : List (List ℕ)) → IsShaped list → length counters ≡ words_for list.len → HasShape (with_counts list counters) (list.kinds ++ kind.Int ∷ []) list.len
counted_shape list counters s e = record { shaped = counts_shaped list counters s e; kinds = refl; len = refl }

wide_counter : (n : ℕ) (counter : List ℕ) → n < 2 ^ 32 → length counter ≡ bits n → length (one_row (count_planes counter)) ≡ 32
wide_counter n counter few e = length-map (count_planes counter) (λ (gate : ℕ). gate ∷ []) ∙ length-count_planes counter (omega (arith, e, bits_few n 32 few))

module _ {inputs : InputWords} {words : List ℕ} where
  -- ---- loops keep lengths
  turns_long : {A : Type 0} (step : ℕ → List A → Making (List A)) (count : ℕ) → ((j : ℕ) (a b : List A) → Yields inputs words (step j a) b → length b ≡ length a)
      → (j left : ℕ) (a b : List A) → length a ≡ count → Yields inputs words (in_turn step j left a) b → length b ≡ count
  turns_long {A} step count s j left a b h y = turns_keep step (λ (i : ℕ) (xs : List A). length xs ≡ count) (λ i c d p z. s i c d z ∙ p) j left a b h y

  each_range : {B : Type 0} (f : ℕ → Making B) (count : ℕ) (out : List B) → Yields inputs words (each f (range_with_len 0 count)) out → length out ≡ count
  each_range f count out y =
      let all = yields-each f (range_with_len 0 count) out y in
      all.count ∙ length-range_with_len 0 count

  either : {A : Type 0} (b : Bool) (m n : Making A) {out : A} (P : A → Type 0) → (Yields inputs words m out → P out) → (Yields inputs words n out → P out) → Yields inputs words (cond b m n) out → P out
  either true m n P f g y = f y
  either false m n P f g y = g y

  -- ---- filter, project, join
  pub filter_shape : (list : PaddedList) (clauses : List (List Cmp)) {out : PaddedList} → IsShaped list → Yields inputs words (filter_gates list clauses) out → HasShape out list.kinds list.len
  filter_shape list clauses s y =
      let a = yields-then _ _ y in
      let all = yields-each _ (range_with_len 0 (length list.valid)) a.x a.first in
      subst (λ (o : PaddedList). HasShape o list.kinds list.len) (sym (yields-gives _ a.rest)) (with_valid_shape list a.x s (all.count ∙ length-range_with_len 0 (length list.valid) ∙ s.valid))

  pub join_shape : (left right : PaddedList) (on : List (List Cmp)) {out : PaddedList} → IsShaped left → IsShaped right → Yields inputs words (join_gates left right on) out → HasShape out (left.kinds ++ right.kinds) (left.len * right.len)
  join_shape left right on sl sr y =
      let m : ℕ = right.len in
      let n : ℕ = left.len in
      let a = yields-then _ _ y in
      let b = yields-then _ _ a.rest in
      let c = yields-then _ _ b.rest in
      let il = laid_is (λ k. k / m) (n * m) left a.first in
      let ir = laid_is (λ k. k % m) (n * m) right b.first in
      let side = side_shaped words (λ k. k / m) (λ k. k % m) (n * m) left right a.x b.x sl sr il ir in
      let shape = with_valid_shape (side_by_side a.x b.x) c.x side (each_range _ (length a.x.valid) c.x c.first ∙ il.valid_count ∙ ap words_for (sym il.len)) in
      subst (λ (o : PaddedList). HasShape o (left.kinds ++ right.kinds) (n * m)) (sym (yields-gives _ c.rest))
      (record { shaped = shape.shaped; kinds = ap₂ (λ (x y : List Kind). x ++ y) il.kinds ir.kinds; len = il.len })

  -- ---- distinct, group, count
  distinct_row_long : (list : PaddedList) (j : ℕ) (dups out : List ℕ) → Yields inputs words (distinct_row list j dups) out → length out ≡ length dups
  distinct_row_long list j dups out y = either (nat_lt (j + 1) (64 * length dups)) _ (gives dups) (λ (o : List ℕ). length o ≡ length dups)
      (λ z. let a = yields-then _ _ z in each_range _ (length dups) out a.rest)
      (λ z. ap length (yields-gives _ z)) y

  pub distinct_shape : (list : PaddedList) {out : PaddedList} → IsShaped list → Yields inputs words (distinct_gates list) out → HasShape out list.kinds list.len
  distinct_shape list s y =
      let a = yields-then _ _ y in
      let b = yields-then _ _ a.rest in
      let dups : length a.x ≡ length list.valid = turns_long (distinct_row list) (length list.valid) (λ j c d z. distinct_row_long list j c d z) 0 list.len _ a.x (length-replicate (length list.valid) 0) a.first in
      let valid : length b.x ≡ length a.x = each_range _ (length a.x) b.x b.first in
      subst (λ (o : PaddedList). HasShape o list.kinds list.len) (sym (yields-gives _ b.rest)) (with_valid_shape list b.x s (valid ∙ dups ∙ s.valid))

  pub group_shape : (list : PaddedList) (keys : List ℕ) (having : Option ℕ) {out : PaddedList} → IsShaped list → AllByRecursion (λ c. c < length list.kinds) keys → Yields inputs words (group_gates list keys having) out
      → HasShape out (map (kind_at list.kinds) keys ++ kind.Int ∷ []) list.len
  group_shape list keys having s there y =
      let a = yields-then _ _ y in
      let b = yields-then _ _ a.rest in
      let seen : length a.x ≡ length list.valid = turns_long (group_row (projected list (first_mentions keys))) (length list.valid) (λ j c d z. let r = yields-then _ _ z in each_range _ (length c) d r.rest) 0 list.len _ a.x (length-replicate (length list.valid) (none_seen list.len)) a.first in
      let valid : length b.x ≡ length a.x = each_range _ (length a.x) b.x b.first in
      let cut = with_valid_shape (projected list keys) b.x (projected_shaped list keys s there) (valid ∙ seen ∙ s.valid) in
      let counters : List (List ℕ) = map (λ (k : Seen). k.count) a.x in
      subst (λ (o : PaddedList). HasShape o (map (kind_at list.kinds) keys ++ kind.Int ∷ []) list.len) (sym (yields-gives _ b.rest))
      (counted_shape (with_valid (projected list keys) b.x) counters cut.shaped (length-map a.x (λ (k : Seen). k.count) ∙ seen ∙ s.valid))

  add_bit_long : (counter : List ℕ) (bit : ℕ) (out : List ℕ) → Yields inputs words (add_bit_gates counter bit) out → length out ≡ length counter
  add_bit_long [] bit out y = ap length (yields-gives _ y)
  add_bit_long (plane ∷ above) bit out y =
      let a = yields-then _ _ y in
      let b = yields-then _ _ a.rest in
      let c = yields-then _ _ b.rest in
      ap length (yields-gives _ c.rest) ∙ ap suc (add_bit_long above b.x c.x c.first)

  pub count_shape : (list : PaddedList) {out : PaddedList} → list.len < 2 ^ 32 → Yields inputs words (count_gates list) out → HasShape out (kind.Int ∷ []) 1
  count_shape list few y =
      let a = yields-then _ _ y in
      let b = yields-then _ _ a.rest in
      let counter : length a.x ≡ bits list.len = turns_long (count_row list) (bits list.len) (λ j c d z. let r = yields-then _ _ z in add_bit_long c r.x d r.rest) 0 list.len _ a.x (length-replicate (bits list.len) 0) a.first in
      subst (λ (o : PaddedList). HasShape o (kind.Int ∷ []) 1) (sym (yields-gives _ b.rest))
      (single_shape b.x (kind.Int ∷ []) (one_row (count_planes a.x)) (wide_counter list.len a.x few counter) (long_one_row (count_planes a.x)))

  -- ---- where each row holds one value
  value_wide : (v : Value) (kinds : List Kind) (out : List ℕ) → Yields inputs words (value_gates v kinds) out → length out ≡ widths kinds
  value_wide v [] out y = ap length (yields-gives _ y)
  value_wide v (k ∷ ks) out y =
      let a = yields-then _ _ y in
      let b = yields-then _ _ a.rest in
      let all = yields-each _ (range_with_len 0 (width_of k)) a.x a.first in
      omega (arith, ap length (yields-gives _ b.rest), length-append a.x b.x, all.count ∙ length-range_with_len 0 (width_of k), value_wide v ks b.x b.first, widths-cons k ks)

  pub cut_distinct_shape : (list : PaddedList) (v : Value) {out : PaddedList} → Yields inputs words (cut_distinct_gates list v) out → HasShape out list.kinds 1
  cut_distinct_shape list v y =
      let a = yields-then _ _ y in
      let b = yields-then _ _ a.rest in
      subst (λ (o : PaddedList). HasShape o list.kinds 1) (sym (yields-gives _ b.rest))
      (single_shape a.x list.kinds (one_row b.x) (length-map b.x (λ (gate : ℕ). gate ∷ []) ∙ value_wide v list.kinds b.x b.first) (long_one_row b.x))

  pub cut_group_shape : (list : PaddedList) (keys : List ℕ) (v : Value) (having : Option ℕ) {out : PaddedList} → list.len < 2 ^ 32 → Yields inputs words (cut_group_gates list keys v having) out → HasShape out (map (kind_at list.kinds) keys ++ kind.Int ∷ []) 1
  cut_group_shape list keys v having few y =
      let a = yields-then _ _ y in
      let b = yields-then _ _ a.rest in
      let c = yields-then _ _ b.rest in
      let kinds : List Kind = map (kind_at list.kinds) keys in
      let step : (j : ℕ) (s o : Seen) → length s.count ≡ bits list.len → Yields inputs words (cut_group_row list j s) o → length o.count ≡ bits list.len
      = λ j s o h z.
      let p = yields-then _ _ z in
      let q = yields-then _ _ p.rest in
      let r = yields-then _ _ q.rest in
      ap (λ (k : Seen). length k.count) (yields-gives _ r.rest) ∙ add_bit_long s.count p.x r.x r.first ∙ h in
      let counter : length a.x.count ≡ bits list.len = turns_keep (cut_group_row list) (λ (j : ℕ) (s : Seen). length s.count ≡ bits list.len) step 0 list.len _ a.x (length-replicate (bits list.len) 0) a.first in
      let values : length (one_row b.x) ≡ widths kinds = length-map b.x (λ (gate : ℕ). gate ∷ []) ∙ value_wide v kinds b.x b.first in
      let counts : length (one_row (count_planes a.x.count)) ≡ 32 = wide_counter list.len a.x.count few counter in
      let wide : length (one_row b.x ++ one_row (count_planes a.x.count)) ≡ widths (kinds ++ kind.Int ∷ [])
      = omega (arith, length-append (one_row b.x) (one_row (count_planes a.x.count)), values, counts, sum_by-append width_of kinds (kind.Int ∷ [])) in
      subst (λ (o : PaddedList). HasShape o (kinds ++ kind.Int ∷ []) 1) (sym (yields-gives _ c.rest))
      (single_shape c.x (kinds ++ kind.Int ∷ []) (one_row b.x ++ one_row (count_planes a.x.count)) wide (long_append 1 (one_row b.x) (one_row (count_planes a.x.count)) (long_one_row b.x) (long_one_row (count_planes a.x.count))))

  -- ---- number, top
  pub number_shape : (list : PaddedList) (partition : List ℕ) (order : List Key) {out : PaddedList} → IsShaped list → Yields inputs words (number_gates list partition order) out → HasShape out (list.kinds ++ kind.Int ∷ []) list.len
  number_shape list partition order s y =
      let a = yields-then _ _ y in
      let b = yields-then _ _ a.rest in
      let counters : length b.x ≡ length list.valid
      = turns_long (row_gates (ranked_of list partition order a.x)) (length list.valid)
      (λ j c d z. let p = yields-then _ _ z in each_range _ (length c) d p.rest) 0 list.len _ b.x (length-replicate (length list.valid) (no_count list.len)) b.first in
      subst (λ (o : PaddedList). HasShape o (list.kinds ++ kind.Int ∷ []) list.len) (sym (yields-gives _ b.rest)) (counted_shape list b.x s (counters ∙ s.valid))

  first_long : (list : PaddedList) (order : List Key) (limit : ℕ) {kept : List ℕ} → IsShaped list → Yields inputs words (first_gates list order limit) kept → length kept ≡ words_for list.len
  first_long list order limit s y =
      let a = yields-then _ _ y in
      let b = yields-then _ _ a.rest in
      let numbered = number_shape list [] order s a.first in
      let filtered = filter_shape a.x (within (length list.kinds) limit) numbered.shaped b.first in
      let f = filtered.shaped in
      ap length (yields-gives _ b.rest) ∙ f.valid ∙ ap words_for (filtered.len ∙ numbered.len)

  kept_long : (list : PaddedList) (order : List Key) (limit : Option ℕ) {kept : List ℕ} → IsShaped list → Yields inputs words (kept_gates list order limit) kept → length kept ≡ words_for list.len
  kept_long list order None s y = ap length (yields-gives _ y) ∙ s.valid
  kept_long list order (Some limit) s y = by (nat_lt limit list.len) y
    where
      by : (b : Bool) {kept : List ℕ} → Yields inputs words (limit_gates b list order limit) kept → length kept ≡ words_for list.len
      by true z = first_long list order limit s z
      by false z = ap length (yields-gives _ z) ∙ s.valid

  pub top_shape : (list : PaddedList) (order : List Key) (limit : Option ℕ) {out : PaddedList} → IsShaped list → Yields inputs words (top_gates list order limit) out → HasShape out list.kinds list.len
  top_shape list order limit s y =
      let a = yields-then _ _ y in
      let b = yields-then _ _ a.rest in
      let all = yields-each (cleared_gates a.x) list.planes b.x b.first in
      let plane : (p : ℕ) → p < length b.x → length (plane_at b.x p) ≡ words_for list.len
      = λ p h.
      let within_planes : p < length list.planes = omega (arith, h, all.count) in
      let each_plane = yields-each _ (range_with_len 0 (length (plane_at list.planes p))) (plane_at b.x p) (all.at p [] [] within_planes) in
      each_plane.count ∙ length-range_with_len 0 (length (plane_at list.planes p)) ∙ s.words p within_planes in
      subst (λ (o : PaddedList). HasShape o list.kinds list.len) (sym (yields-gives _ b.rest))
      (record { shaped = record { valid = kept_long list order limit s a.first; planes = all.count ∙ s.planes; words = plane }; kinds = refl; len = refl })
