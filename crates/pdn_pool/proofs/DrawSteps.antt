-- Each step of a seat keeps the rule of the draws.
use Rattle.std.proofs.Common.{◌≡◌, ℕ, zero, suc, ◌+◌, ◌-◌, ◌*◌, ◌<◌, ◌≤◌, ◌%◌, ◌^◌, List, [], ◌∷◌, ◌++◌, length, refl, sym, ap, ◌∙◌, subst, arith, set, ⊎_elim, length-append}
use mathlib.Core.Option.{some, some-injective, some-ne-none}
use lib.ListN.{get_elem?}
use Rattle.std.proofs.lemmas.Bool.Decides.{nat_tests}
use Rattle.std.specs.Prelude.{slice_index, slice_set, if◌then◌else◌, ◌==◌}
use Rattle.atomic_table.specs.Table.{keeps, Allows, Splits, Joins}
use Rattle.atomic_table.proofs.Lists.{at_set, at_snoc, set_else, set_again}
use Rattle.pdn_pool.specs.declared.rule.Hand.{Hand}
use Rattle.pdn_pool.specs.Draws.{total, times, once_below, hand, HasRoom, Draws, IsDraw}

-- ---- totals over hands
-- one hand is exchanged
total_set : (f : Hand → ℕ) (views : List Hand) (k : ℕ) (v w : Hand) → get_elem? views k ≡ some v
    → total f (set views k w) + f v ≡ total f views + f w
unfolding total
total_set f [] k v w e = absurd (some-ne-none v (sym e))
total_set f (x ∷ xs) zero v w e = let h : f x ≡ f v = ap f (some-injective x v e) in omega arith
total_set f (x ∷ xs) (suc k) v w e = let h = total_set f xs k v w e in omega arith

-- one hand more
total_snoc : (f : Hand → ℕ) (views : List Hand) (w : Hand) → total f (views ++ w ∷ []) ≡ total f views + f w
unfolding total
total_snoc f [] w = omega arith
total_snoc f (x ∷ xs) w = let h = total_snoc f xs w in omega arith

-- one hand's part is at most the whole
part_of_total : (f : Hand → ℕ) (views : List Hand) (k : ℕ) (v : Hand) → get_elem? views k ≡ some v → f v ≤ total f views
unfolding total
part_of_total f [] k v e = absurd (some-ne-none v (sym e))
part_of_total f (x ∷ xs) zero v e = let h : f x ≡ f v = ap f (some-injective x v e) in omega arith
part_of_total f (x ∷ xs) (suc k) v e = let h = part_of_total f xs k v e in omega arith

-- ---- how often a number stands in a list
pub times_append : (x : ℕ) (xs ys : List ℕ) → times x (xs ++ ys) ≡ times x xs + times x ys
unfolding times
times_append x [] ys = omega arith
times_append x (y ∷ xs) ys = let h = times_append x xs ys in omega arith

times_last : (x n : ℕ) (xs : List ℕ) → times x (xs ++ n ∷ []) ≡ times x xs + (if n == x then 1 else 0)
unfolding times
times_last x n xs = let h = times_append x xs (n ∷ []) in omega arith

none_of : (x : ℕ) (xs : List ℕ) → length xs ≤ 0 → times x xs ≡ 0
unfolding times
none_of x [] h = refl
none_of x (y ∷ ys) h = absurd (omega arith)

once_more : (x n : ℕ) → once_below x (n + 1) ≡ once_below x n + (if n == x then 1 else 0)
once_more x n = grind (arith, nat_tests)

none_below_zero : (x : ℕ) → 0 ≡ once_below x 0
none_below_zero x = grind (arith, nat_tests)

-- ---- the one word
one_word : (ws : List ℕ) (n : ℕ) → length ws ≡ 1 → slice_index (slice_set ws 0 n) 0 ≡ n
one_word [] n e = absurd (omega arith)
one_word (w ∷ ws) n e = refl

one_set : (ws : List ℕ) (n : ℕ) → length ws ≡ 1 → length (slice_set ws 0 n) ≡ 1
one_set [] n e = absurd (omega arith)
one_set (w ∷ ws) n e = e

same_word : (ws : List ℕ) → length ws ≡ 1 → slice_set ws 0 (slice_index ws 0) ≡ ws
same_word [] e = absurd (omega arith)
same_word (w ∷ ws) e = refl

-- ---- room
Roomy : List Hand → Type 0
Roomy views = (k : ℕ) (v : Hand) → get_elem? views k ≡ some v → HasRoom v

roomy : (views : List Hand) → ((k : ℕ) (v : Hand) → get_elem? views k ≡ some v → HasRoom v) → Roomy views
unfolding Roomy
roomy views r = r

lengths_fit : (views : List Hand) → Roomy views → total (λ v. length v.drawn) views ≤ total (λ v. v.weight) views * 4294967295
unfolding total Roomy
lengths_fit [] room = omega arith
lengths_fit (v ∷ vs) room = let h = lengths_fit vs (λ k. room (suc k)) in let r = room 0 v refl in omega arith

stays_small : (words : List ℕ) (views : List Hand) → Draws words views → slice_index words 0 < 2 ^ 48
stays_small words views d = let h = lengths_fit views (roomy views d.room) in let l = d.lengths in let w = d.weights in omega arith

-- ---- a draw
draw_keeps : (words : List ℕ) (views : List Hand) (id : ℕ) (v : Hand) → Draws words views → get_elem? views id ≡ some v
    → length v.drawn < v.weight * 4294967295
    → let n = slice_index words 0 in Draws (slice_set words 0 ((n + 1) % 2 ^ 64)) (slice_set views id (hand v.weight (v.drawn ++ n ∷ [])))
draw_keeps words views id v d at more =
    let n = slice_index words 0 in
    let w = hand v.weight (v.drawn ++ n ∷ []) in
    let small = stays_small words views d in
    let wrap : (n + 1) % 2 ^ 64 ≡ n + 1 = omega arith in
    let here : slice_index (slice_set words 0 ((n + 1) % 2 ^ 64)) 0 ≡ n + 1 = one_word words ((n + 1) % 2 ^ 64) d.word ∙ wrap in
    let longer : length w.drawn ≡ length v.drawn + 1 = length-append v.drawn (n ∷ []) in
    record {
      word = one_set words ((n + 1) % 2 ^ 64) d.word;
      each_once = λ x.
          let t = total_set (λ u. times x u.drawn) views id v w at in
          let o = d.each_once x in
          let l = times_last x n v.drawn in
          let m = once_more x n in
          rw here (omega arith);
      lengths = let t = total_set (λ u. length u.drawn) views id v w at in let l = d.lengths in rw here (omega arith);
      weights = let t = total_set (λ u. u.weight) views id v w at in let l = d.weights in omega arith;
      room = λ k u e.
          ⊎_elim (λ s. subst (λ (z : Hand). HasRoom z) s.1 (omega arith)) (λ s. d.room k u s.1) (at_set views id k w u e);
    }

pub draws : (slots id : ℕ) (v : Hand) (c : List (ℕ × Unit {0})) → length v.drawn < v.weight * 4294967295
    → Allows (λ s. Draws s.words s.views) slots id (v, c) 0 (λ n. (n + 1) % 2 ^ 64) (λ found w. IsDraw v found w.0 × (w.1 ≡ c))
draws slots id v c more s d len at fits =
    let p = part_of_total (λ (h : Hand). length h.drawn) s.views id v at in
    let l = d.lengths in (
      hand v.weight (v.drawn ++ slice_index s.words 0 ∷ []),
      keeps,
      tt,
      draw_keeps s.words s.views id v d at more,
      (record { appended = refl; least = omega arith }, refl),
    )

-- ---- a part of the weight goes to a new seat
split_keeps : (words : List ℕ) (views : List Hand) (id : ℕ) (v : Hand) → Draws words views → get_elem? views id ≡ some v → 2 ≤ v.weight → v.drawn ≡ []
    → Draws words (slice_set views id (hand (v.weight - 1) v.drawn) ++ hand 1 [] ∷ [])
unfolding times
split_keeps words views id v d at heavy fresh =
    let left = hand (v.weight - 1) v.drawn in
    let right = hand 1 [] in
    let none : length v.drawn ≡ 0 = ap length fresh in
    record {
      word = d.word;
      each_once = λ x.
          let f : Hand → ℕ = λ u. times x u.drawn in
          let a = total_set f views id v left at in
          let b = total_snoc f (slice_set views id left) right in
          let o = d.each_once x in
          omega arith;
      lengths =
          let f : Hand → ℕ = λ u. length u.drawn in
          let a = total_set f views id v left at in
          let b = total_snoc f (slice_set views id left) right in
          let o = d.lengths in
          omega arith;
      weights =
          let f : Hand → ℕ = λ u. u.weight in
          let a = total_set f views id v left at in
          let b = total_snoc f (slice_set views id left) right in
          let o = d.weights in
          omega arith;
      room = λ k u e. ⊎_elim
          (λ s. ⊎_elim (λ t. subst (λ (z : Hand). HasRoom z) t.1 (omega arith)) (λ t. d.room k u t.1) (at_set views id k left u s))
          (λ s. subst (λ (z : Hand). HasRoom z) s (omega arith))
          (at_snoc (slice_set views id left) right u k e);
    }

pub splits : (id : ℕ) (v : Hand) → 2 ≤ v.weight → v.drawn ≡ []
    → Splits {S = Unit {0}} (λ s. Draws s.words s.views) id v (hand (v.weight - 1) v.drawn) (hand 1 [])
splits id v heavy fresh s d at = split_keeps s.words s.views id v d at heavy fresh

-- ---- two seats become one
join_keeps : (words : List ℕ) (views : List Hand) (id : ℕ) (v : Hand) (other : ℕ) (w : Hand) → Draws words views → get_elem? views id ≡ some v → ¬ (other ≡ id)
    → let both = hand (v.weight + w.weight) (v.drawn ++ w.drawn) in get_elem? (slice_set views id both) other ≡ some w
    → Draws words (slice_set (slice_set views id both) other (hand 0 []))
unfolding times
join_keeps words views id v other w d at apart there =
    let both = hand (v.weight + w.weight) (v.drawn ++ w.drawn) in
    let spent = hand 0 [] in
    let r = d.room id v at in
    let q = d.room other w (sym (set_else views id other both apart) ∙ there) in
    let long : length both.drawn ≡ length v.drawn + length w.drawn = length-append v.drawn w.drawn in
    record {
      word = d.word;
      each_once = λ x.
          let f : Hand → ℕ = λ u. times x u.drawn in
          let a = total_set f views id v both at in
          let b = total_set f (slice_set views id both) other w spent there in
          let t = times_append x v.drawn w.drawn in
          let o = d.each_once x in
          omega arith;
      lengths =
          let f : Hand → ℕ = λ u. length u.drawn in
          let a = total_set f views id v both at in
          let b = total_set f (slice_set views id both) other w spent there in
          let o = d.lengths in
          omega arith;
      weights =
          let f : Hand → ℕ = λ u. u.weight in
          let a = total_set f views id v both at in
          let b = total_set f (slice_set views id both) other w spent there in
          let o = d.weights in
          omega arith;
      room = λ k u e. ⊎_elim
          (λ s. subst (λ (z : Hand). HasRoom z) s.1 (omega arith))
          (λ s. ⊎_elim (λ t. subst (λ (z : Hand). HasRoom z) t.1 (omega arith)) (λ t. d.room k u t.1) (at_set views id k both u s.1))
          (at_set (slice_set views id both) other k spent u e);
    }

pub joins : (id : ℕ) (v : Hand) (other : ℕ) (w : Hand)
    → Joins {S = Unit {0}} (λ s. Draws s.words s.views) id v other w (hand (v.weight + w.weight) (v.drawn ++ w.drawn)) (hand 0 [])
joins id v other w s d at apart there = join_keeps s.words s.views id v other w d at apart there

-- ---- the seat that has the whole weight drew all
none_total : (x : ℕ) (views : List Hand) → Roomy views → total (λ v. v.weight) views ≡ 0 → total (λ v. times x v.drawn) views ≡ 0
unfolding total Roomy
none_total x [] room e = refl
none_total x (v ∷ vs) room e =
    let h = none_total x vs (λ k. room (suc k)) (omega arith) in
    let r = room 0 v refl in
    let n = none_of x v.drawn (omega arith) in
    omega arith

whole_total : (x : ℕ) (views : List Hand) (id : ℕ) (v : Hand) → Roomy views → get_elem? views id ≡ some v → total (λ u. u.weight) views ≡ v.weight
    → total (λ u. times x u.drawn) views ≡ times x v.drawn
unfolding total Roomy
whole_total x [] id v room at e = absurd (some-ne-none v (sym at))
whole_total x (u ∷ us) zero v room at e =
    let same = some-injective u v at in
    let w : u.weight ≡ v.weight = ap (λ (h : Hand). h.weight) same in
    let t : times x u.drawn ≡ times x v.drawn = ap (λ (h : Hand). times x h.drawn) same in
    let h = none_total x us (λ k. room (suc k)) (omega arith) in
    omega arith
whole_total x (u ∷ us) (suc id) v room at e =
    let p = part_of_total (λ (h : Hand). h.weight) us id v at in
    let r = room 0 u refl in
    let n = none_of x u.drawn (omega arith) in
    let h = whole_total x us id v (λ k. room (suc k)) at (omega arith) in
    omega arith

pub learns : (slots id : ℕ) (v : Hand) (c : List (ℕ × Unit {0})) → v.weight ≡ 65535
    → Allows (λ s. Draws s.words s.views) slots id (v, c) 0 (λ n. n) (λ found w. (w ≡ (v, c)) × ((x : ℕ) → times x v.drawn ≡ once_below x found))
learns slots id v c all s d len at fits =
    let views' = slice_set s.views id v in (
      v,
      keeps,
      tt,
      subst (λ ws. Draws ws views') (sym (same_word s.words d.word)) (subst (λ vs. Draws s.words vs) (sym (set_again s.views id v at)) d),
      (refl, (λ x. sym (whole_total x s.views id v (roomy s.views d.room) at (d.weights ∙ sym all)) ∙ d.each_once x)),
    )

-- ---- the beginning
begins_room : (k : ℕ) (u : Hand) → get_elem? (hand 65535 [] ∷ []) k ≡ some u → HasRoom u
begins_room zero u e = rw (sym (some-injective (hand 65535 []) u e)) (omega arith)
begins_room (suc k) u e = absurd (some-ne-none u (sym e))

pub begins : Draws (0 ∷ []) (hand 65535 [] ∷ [])
unfolding total times
begins = record {
  word = refl;
  each_once = λ x. none_below_zero x;
  lengths = refl;
  weights = refl;
  room = λ k u e. begins_room k u e;
}
