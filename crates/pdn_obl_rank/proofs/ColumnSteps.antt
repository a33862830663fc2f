-- The sort key and the descending columns, column by column.
use Rattle.std.proofs.Common.{◌≡◌, ℕ, suc, ◌+◌, ◌<◌, ◌≤◌, Bool, true, false, not, ◌&&◌, ◌||◌, cond, List, [], ◌∷◌, ◌++◌, length, get_or, map, filter, take, refl, sym, ap, ◌∙◌, arith, append_assoc, append-nil, nat_eq, true≢false}
use Rattle.std.specs.List.{range_with_len, list_any}
use Rattle.std.proofs.lemmas.Bool.{eqb-true, eq-eqb}
use Rattle.std.proofs.lemmas.List.{take_more, map-append}
use Rattle.std.proofs.lemmas.List.Elements.{filter-append}
use Rattle.pdn_base.specs.declared.order.Key.{Key}
use Rattle.pdn_base.specs.Bags.{distinct}
use Rattle.pdn_obl_rows.proofs.LaidLaws.{range-add}
use Rattle.pdn_obl_rank.specs.Keys.{ascending, is_named, sort_key, down_columns, place_among, one_if}

chosen_one : (p : ℕ → Bool) (x : ℕ) → filter p (x ∷ []) ≡ one_if (p x) x
chosen_one p x = step (p x)
  where
    step : (b : Bool) → cond b (x ∷ []) [] ≡ one_if b x
    step true = refl
    step false = refl

pub sort_key_more : (order : List Key) (n : ℕ) (old new : List Key) → old ≡ sort_key order n → new ≡ old ++ map ascending (one_if (not (is_named order n)) n) → new ≡ sort_key order (n + 1)
sort_key_more order n old new e f =
    let p : ℕ → Bool = λ c. not (is_named order c) in
    let rest : List ℕ = filter p (range_with_len 0 n) in
    let z : 0 + n ≡ n = omega arith in
    let more : filter p (range_with_len 0 (n + 1)) ≡ rest ++ one_if (p n) n
    = ap (filter p) (range-add 0 n 1) ∙ filter-append p (range_with_len 0 n) (range_with_len (0 + n) 1) ∙ ap (λ k. rest ++ filter p (k ∷ [])) z ∙ ap (λ xs. rest ++ xs) (chosen_one p n) in
    f ∙ ap (λ (ks : List Key). ks ++ map ascending (one_if (p n) n)) e ∙ append_assoc order (map ascending rest) (map ascending (one_if (p n) n))
    ∙ ap (λ (ks : List Key). order ++ ks) (sym (map-append ascending rest (one_if (p n) n)) ∙ ap (map ascending) (sym more))

-- ---- each once
others_keep : (x y : ℕ) (ds : List ℕ) → nat_eq x y ≡ false → list_any (nat_eq x) (filter (λ z. not (nat_eq y z)) ds) ≡ list_any (nat_eq x) ds
others_keep x y [] e = refl
others_keep x y (d ∷ ds) e = step (nat_eq y d) refl (others_keep x y ds e)
  where
    step : (b : Bool) → nat_eq y d ≡ b → list_any (nat_eq x) (filter (λ z. not (nat_eq y z)) ds) ≡ list_any (nat_eq x) ds
        → list_any (nat_eq x) (cond (not b) (d ∷ filter (λ z. not (nat_eq y z)) ds) (filter (λ z. not (nat_eq y z)) ds)) ≡ (nat_eq x d || list_any (nat_eq x) ds)
    step true f ih =
        let miss : nat_eq x d ≡ false = ap (nat_eq x) (sym (eqb-true y d f)) ∙ e in
        ih ∙ sym (ap (λ b. b || list_any (nat_eq x) ds) miss)
    step false f ih = ap (λ b. nat_eq x d || b) ih

not_back : (x y : ℕ) → nat_eq x y ≡ false → nat_eq y x ≡ false
not_back x y e = step (nat_eq y x) refl
  where
    step : (b : Bool) → nat_eq y x ≡ b → b ≡ false
    step true f = absurd (true≢false (sym (eq-eqb x y (sym (eqb-true y x f))) ∙ e))
    step false f = refl

keep_one : (p : ℕ → Bool) (x : ℕ) (b : Bool) → filter p (one_if b x) ≡ one_if (b && p x) x
keep_one p x true = chosen_one p x
keep_one p x false = refl

distinct_push : (x : ℕ) (xs : List ℕ) → distinct nat_eq (xs ++ x ∷ []) ≡ distinct nat_eq xs ++ one_if (not (list_any (nat_eq x) (distinct nat_eq xs))) x
distinct_push x [] = refl
distinct_push x (y ∷ ys) =
    let p : ℕ → Bool = λ z. not (nat_eq y z) in
    let ds : List ℕ = distinct nat_eq ys in
    let b : Bool = not (list_any (nat_eq x) ds) in
    ap (λ zs. y ∷ filter p zs) (distinct_push x ys)
    ∙ ap (λ zs. y ∷ zs) (filter-append p ds (one_if b x) ∙ ap (λ zs. filter p ds ++ zs) (keep_one p x b ∙ ap (λ c. one_if c x) (same (nat_eq x y) refl)))
  where
    same : (c : Bool) → nat_eq x y ≡ c → (not (list_any (nat_eq x) (distinct nat_eq ys)) && not (nat_eq y x)) ≡ not (nat_eq x y || list_any (nat_eq x) (filter (λ z. not (nat_eq y z)) (distinct nat_eq ys)))
    same true e =
        let back : nat_eq y x ≡ true = eq-eqb y x (sym (eqb-true x y e)) in
        ap (λ c. not (list_any (nat_eq x) (distinct nat_eq ys)) && not c) back ∙ none (not (list_any (nat_eq x) (distinct nat_eq ys)))
        ∙ sym (ap (λ c. not (c || list_any (nat_eq x) (filter (λ z. not (nat_eq y z)) (distinct nat_eq ys)))) e)
      where
        none : (c : Bool) → (c && false) ≡ false
        none true = refl
        none false = refl
    same false e =
        ap (λ c. not (list_any (nat_eq x) (distinct nat_eq ys)) && not c) (not_back x y e) ∙ all (not (list_any (nat_eq x) (distinct nat_eq ys)))
        ∙ sym (ap (λ c. not (c || list_any (nat_eq x) (filter (λ z. not (nat_eq y z)) (distinct nat_eq ys)))) e ∙ ap not (others_keep x y (distinct nat_eq ys) e))
      where
        all : (c : Bool) → (c && true) ≡ c
        all true = refl
        all false = refl

abbrev names : List Key → List ℕ
names order = map (λ (key : Key). key.column) (filter (λ (key : Key). key.down) order)

pub down_more : (order : List Key) (k : ℕ) (d : Key) (old new : List ℕ) → k < length order → old ≡ down_columns (take k order)
    → new ≡ old ++ one_if ((get_or order k d).down && not (list_any (nat_eq (get_or order k d).column) old)) (get_or order k d).column → new ≡ down_columns (take (k + 1) order)
down_more order k d old new h e f =
    let key : Key = get_or order k d in
    let front : List Key = take k order in
    let split : names (take (k + 1) order) ≡ names front ++ names (key ∷ [])
    = ap names (take_more order k d h) ∙ ap (map (λ (key : Key). key.column)) (filter-append (λ (key : Key). key.down) front (key ∷ [])) ∙ map-append (λ (key : Key). key.column) (filter (λ (key : Key). key.down) front) (filter (λ (key : Key). key.down) (key ∷ [])) in
    f ∙ ap (λ (xs : List ℕ). xs ++ one_if (key.down && not (list_any (nat_eq key.column) xs)) key.column) e ∙ step key.down refl ∙ sym (ap (distinct nat_eq) split)
  where
    step : (b : Bool) → (get_or order k d).down ≡ b
        → down_columns (take k order) ++ one_if ((get_or order k d).down && not (list_any (nat_eq (get_or order k d).column) (down_columns (take k order)))) (get_or order k d).column ≡ distinct nat_eq (names (take k order) ++ names (get_or order k d ∷ []))
    step true g =
        let key : Key = get_or order k d in
        ap (λ b. down_columns (take k order) ++ one_if (b && not (list_any (nat_eq key.column) (down_columns (take k order)))) key.column) g
        ∙ sym (ap (λ b. distinct nat_eq (names (take k order) ++ map (λ (key : Key). key.column) (cond b (key ∷ []) []))) g ∙ distinct_push key.column (names (take k order)))
    step false g =
        let key : Key = get_or order k d in
        ap (λ b. down_columns (take k order) ++ one_if (b && not (list_any (nat_eq key.column) (down_columns (take k order)))) key.column) g ∙ append-nil (down_columns (take k order))
        ∙ sym (ap (λ b. distinct nat_eq (names (take k order) ++ map (λ (key : Key). key.column) (cond b (key ∷ []) []))) g ∙ ap (distinct nat_eq) (append-nil (names (take k order))))

pub place_le : (c : ℕ) (ds : List ℕ) → place_among c ds ≤ length ds
place_le c [] = omega arith
place_le c (d ∷ ds) = step (nat_eq c d) (place_le c ds)
  where
    step : (b : Bool) → place_among c ds ≤ length ds → cond b 0 (1 + place_among c ds) ≤ suc (length ds)
    step true h = omega arith
    step false h = omega (arith, h)
