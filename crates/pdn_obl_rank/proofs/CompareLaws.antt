-- The columns that are compared are there, and as long as those of the list.
use Rattle.std.proofs.Common.{◌≡◌, ℕ, zero, suc, ◌+◌, ◌<◌, ◌≤◌, ◌^◌, Bool, true, false, not, cond, List, [], ◌∷◌, ◌++◌, length, map, filter, take, drop, refl, sym, ap, ◌∙◌, subst, arith, length-append, append_assoc, nat_eq, Result, Ok, Err}
use Rattle.std.specs.Prelude.{MatchResult}
use Rattle.std.specs.Result.{IsErrAnd}
use Rattle.std.specs.List.{All, AllByRecursion, range_with_len}
use Rattle.std.proofs.lemmas.List.{length-take, length-drop, get_or-take, get_or-drop, length-map, map-append}
use Rattle.std.proofs.lemmas.List.FromFn.{get_or-map-range_with_len, length-map-range_with_len}
use Rattle.std.proofs.lemmas.List.Sums.{length-filter, count_by-le-length}
use Rattle.pdn_base.specs.declared.order.Key.{Key}
use Rattle.pdn_base.specs.Bags.{distinct}
use Rattle.pdn_circuit.specs.declared.tally.BuildErr.{BuildErr}
use Rattle.pdn_circuit.specs.Blocks.{gives, each}
use Rattle.pdn_circuit.specs.Building.{Made, Makes, Stops}
use Rattle.pdn_circuit.proofs.Making.{along_begin, along_next, along_stops, along_end}
use Rattle.pdn_obl_rows.specs.Operators.{IsThere}
use Rattle.pdn_obl_rank.specs.Numbers.{Ranked, ranked_of}
use Rattle.pdn_obl_rank.proofs.Looping.{makes_rises, gates_later, planes_later}
use Rattle.pdn_circuit.specs.Compare.{not_gates}
use Rattle.pdn_obl_rows.specs.Lists.{PaddedList, IsShaped, words_for, width_of, kind_at, planes_before, column_planes}
use Rattle.pdn_obl_rows.proofs.LaidLaws.{range-add}
use Rattle.pdn_obl_rows.proofs.ShapeLaws.{get_or_any}
use Rattle.pdn_obl_rank.specs.Keys.{KeysFit, ascending, is_named, sort_key, down_columns, own_columns, inverted_gates, compared_gates, place_among, place_of_key}
use Rattle.pdn_obl_rank.specs.Building.{GatesThere, PlanesThere, ColumnsThere, Reach, ColumnsReach, Compares}
use Rattle.pdn_obl_rank.proofs.SpreadLaws.{Among, among_here, found_down}
use Rattle.pdn_obl_rank.proofs.ThereLaws.{each_gives}

pub own_more : {A : Type 0} (f : ℕ → A) (k : ℕ) (old new : List A) (x : A) → old ≡ map f (range_with_len 0 k) → new ≡ old ++ x ∷ [] → x ≡ f k → new ≡ map f (range_with_len 0 (k + 1))
own_more {A} f k old new x e g h =
    let z : 0 + k ≡ k = omega arith in
    g ∙ ap (λ (xs : List A). xs ++ x ∷ []) e ∙ ap (λ y. map f (range_with_len 0 k) ++ y ∷ []) (h ∙ ap f (sym z))
    ∙ sym (ap (map f) (range-add 0 k 1) ∙ map-append f (range_with_len 0 k) (range_with_len (0 + k) 1))

-- ---- all of a list
pub all_joined : {A : Type 0} (P : A → Type 0) (xs ys : List A) → All P xs → All P ys → All P (xs ++ ys)
all_joined P [] ys g h k d l = h k d l
all_joined P (x ∷ xs) ys g h zero d l = g zero d (omega arith)
all_joined P (x ∷ xs) ys g h (suc k) d l = all_joined P xs ys (λ i e m. g (suc i) e (omega arith)) h k d (omega arith)

all_part : {A : Type 0} (P : A → Type 0) (m n : ℕ) (xs : List A) → All P xs → All P (take n (drop m xs))
all_part {A} P m n xs g k d l =
    let low : k < n = omega (arith, l, length-take n (drop m xs)) in
    let within : m + k < length xs = omega (arith, l, length-take n (drop m xs), length-drop m xs) in
    subst (λ (x : A). P x) (sym (get_or-take n (drop m xs) k d low ∙ get_or-drop m xs k d)) (g (m + k) d within)

pub all_made : {A : Type 0} (P : A → Type 0) (f : ℕ → A) (n : ℕ) → ((c : ℕ) → c < n → P (f c)) → All P (map f (range_with_len 0 n))
all_made {A} P f n h k d l =
    let low : k < n = omega (arith, l, length-map-range_with_len f 0 n) in
    subst (λ (x : A). P x) (sym (get_or-map-range_with_len f 0 n k k d low (omega arith))) (h k low)

pub from_rec : {A : Type 0} (P : A → Type 0) (xs : List A) → AllByRecursion P xs → All P xs
from_rec P [] a k d l = absurd (omega arith)
from_rec P (x ∷ xs) a zero d l = a.0
from_rec P (x ∷ xs) a (suc k) d l = from_rec P xs a.1 k d (omega arith)

-- ---- gates
pub column_there : (m : ℕ) (list : PaddedList) (c : ℕ) → PlanesThere m list.planes → PlanesThere m (column_planes list.kinds c list.planes)
column_there m list c g = all_part (GatesThere m) (planes_before list.kinds c) (width_of (kind_at list.kinds c)) list.planes g

pub compared_there : (m : ℕ) (list : PaddedList) (inverted : List (List (List ℕ))) → PlanesThere m list.planes → ColumnsThere m inverted → ColumnsThere m (own_columns list ++ inverted)
compared_there m list inverted g h = all_joined (PlanesThere m) (own_columns list) inverted
    (all_made (PlanesThere m) (λ c. column_planes list.kinds c list.planes) (length list.kinds) (λ c l. column_there m list c g)) h

-- ---- words
column_reach : (w : ℕ) (list : PaddedList) → IsShaped list → w < words_for list.len → (c : ℕ) → Reach w (column_planes list.kinds c list.planes)
column_reach w list s h c = all_part (λ plane. w < length plane) (planes_before list.kinds c) (width_of (kind_at list.kinds c)) list.planes
    (λ k d l. subst (λ n. w < n) (sym (ap length (get_or_any list.planes k d [] l) ∙ s.words k l)) h)

inverted_reach : (w : ℕ) (planes : List (List ℕ)) (n : ℕ) → Reach w planes → Reach w (each (λ plane. each not_gates plane) planes n).result
inverted_reach w planes n r =
    let holds = each_gives (λ plane. each not_gates plane) (λ (plane out : List ℕ). length out ≡ length plane) (λ plane m. let h = each_gives not_gates (λ g x. Unit {0}) (λ g i. tt) plane m in h.count) planes n in
    λ k d l. let here = r k [] (omega (arith, l, holds.count)) in omega (arith, here, holds.at k [] d (omega (arith, l, holds.count)))

pub compared_reach : (w : ℕ) (list : PaddedList) (downs : List ℕ) (n : ℕ) (inverted : List (List (List ℕ))) → IsShaped list → w < words_for list.len → inverted ≡ (each (inverted_gates list) downs n).result → ColumnsReach w (own_columns list ++ inverted)
compared_reach w list downs n inverted s h e =
    let holds = each_gives (inverted_gates list) (λ (c : ℕ) (out : List (List ℕ)). Reach w out) (λ c m. inverted_reach w (column_planes list.kinds c list.planes) m (column_reach w list s h c)) downs n in
    all_joined (Reach w) (own_columns list) inverted (all_made (Reach w) (λ c. column_planes list.kinds c list.planes) (length list.kinds) (λ c l. column_reach w list s h c))
    (subst (λ (cs : List (List (List ℕ))). ColumnsReach w cs) (sym e) (λ k d l. holds.at k 0 d (omega (arith, l, holds.count))))

pub compared_count : (list : PaddedList) (downs : List ℕ) (n : ℕ) (inverted : List (List (List ℕ))) → inverted ≡ (each (inverted_gates list) downs n).result → length (own_columns list ++ inverted) ≡ length list.kinds + length downs
compared_count list downs n inverted e =
    let holds = each_gives (inverted_gates list) (λ (c : ℕ) (out : List (List ℕ)). Unit {0}) (λ c m. tt) downs n in
    omega (arith, length-append (own_columns list) inverted, length-map-range_with_len (λ column. column_planes list.kinds column list.planes) 0 (length list.kinds), ap length e, holds.count)

-- ---- places
module _ (n : ℕ) (order : List Key) where
  abbrev count : ℕ
  count = n + length (down_columns order)

  abbrev In : Key → Type 0
  In key = place_of_key n order key < count

  place_in : (key : Key) → key.column < n → (key.down ≡ true → Among key order) → In key
  place_in key h among = step key.down refl
    where
      step : (b : Bool) → key.down ≡ b → In key
      step true e = let f = found_down order key (among e) in let low = f.0 in subst (λ d. cond d (n + place_among key.column (down_columns order)) key.column < count) (sym e) (omega (arith, low))
      step false e = subst (λ d. cond d (n + place_among key.column (down_columns order)) key.column < count) (sym e) (omega (arith, h))

  named_in : (before ks : List Key) → before ++ ks ≡ order → AllByRecursion (λ (key : Key). key.column < n) ks → AllByRecursion In ks
  named_in before [] e h = tt
  named_in before (k ∷ ks) e h =
      (place_in k h.0 (λ d. subst (λ (os : List Key). Among k os) e (among_here before k ks d)), named_in (before ++ k ∷ []) ks (append_assoc before (k ∷ []) ks ∙ e) h.1)

  rest_in : (p : ℕ → Bool) (from many : ℕ) → from + many ≤ n → AllByRecursion In (map ascending (filter p (range_with_len from many)))
  rest_in p from zero h = tt
  rest_in p from (suc many) h = step (p from) (rest_in p (from + 1) many (omega arith))
    where
      step : (b : Bool) → AllByRecursion In (map ascending (filter p (range_with_len (from + 1) many))) → AllByRecursion In (map ascending (cond b (from ∷ filter p (range_with_len (from + 1) many)) (filter p (range_with_len (from + 1) many))))
      step true r = (omega (arith, h), r)
      step false r = r

  joined_rec : (xs ys : List Key) → AllByRecursion In xs → AllByRecursion In ys → AllByRecursion In (xs ++ ys)
  joined_rec [] ys a b = b
  joined_rec (x ∷ xs) ys a b = (a.0, joined_rec xs ys a.1 b)

  mapped : (ks : List Key) → AllByRecursion In ks → AllByRecursion (λ p. p < count) (map (place_of_key n order) ks)
  mapped [] a = tt
  mapped (k ∷ ks) a = (a.0, mapped ks a.1)

  pub key_in : AllByRecursion (λ (key : Key). key.column < n) order → All (λ p. p < count) (map (place_of_key n order) (sort_key order n))
  key_in h = from_rec (λ p. p < count) _ (mapped (sort_key order n) (joined_rec order _ (named_in [] order refl h) (rest_in (λ c. not (is_named order c)) 0 n (omega arith))))

-- ---- descending columns
kept_rec : (P : ℕ → Type 0) (p : ℕ → Bool) (xs : List ℕ) → AllByRecursion P xs → AllByRecursion P (filter p xs)
kept_rec P p [] a = tt
kept_rec P p (x ∷ xs) a = step (p x) (kept_rec P p xs a.1)
  where
    step : (b : Bool) → AllByRecursion P (filter p xs) → AllByRecursion P (cond b (x ∷ filter p xs) (filter p xs))
    step true r = (a.0, r)
    step false r = r

once_rec : (P : ℕ → Type 0) (xs : List ℕ) → AllByRecursion P xs → AllByRecursion P (distinct nat_eq xs)
once_rec P [] a = tt
once_rec P (x ∷ xs) a = (a.0, kept_rec P (λ y. not (nat_eq x y)) (distinct nat_eq xs) (once_rec P xs a.1))

names_rec : (n : ℕ) (order : List Key) → AllByRecursion (λ (key : Key). key.column < n) order → AllByRecursion (λ c. c < n) (map (λ (key : Key). key.column) (filter (λ (key : Key). key.down) order))
names_rec n [] a = tt
names_rec n (k ∷ ks) a = step k.down (names_rec n ks a.1)
  where
    step : (b : Bool) → AllByRecursion (λ c. c < n) (map (λ (key : Key). key.column) (filter (λ (key : Key). key.down) ks)) → AllByRecursion (λ c. c < n) (map (λ (key : Key). key.column) (cond b (k ∷ filter (λ (key : Key). key.down) ks) (filter (λ (key : Key). key.down) ks)))
    step true r = (a.0, r)
    step false r = r

pub downs_in : (n : ℕ) (order : List Key) → AllByRecursion (λ (key : Key). key.column < n) order → All (λ c. c < n) (down_columns order)
downs_in n order a = from_rec (λ c. c < n) (down_columns order) (once_rec (λ c. c < n) _ (names_rec n order a))

once_few : (xs : List ℕ) → length (distinct nat_eq xs) ≤ length xs
once_few [] = omega arith
once_few (x ∷ xs) = omega (arith, once_few xs, length-filter (λ y. not (nat_eq x y)) (distinct nat_eq xs), count_by-le-length (λ y. not (nat_eq x y)) (distinct nat_eq xs))

pub downs_few : (order : List Key) → length (down_columns order) ≤ length order
downs_few order =
    let chosen : List Key = filter (λ (key : Key). key.down) order in
    omega (arith, once_few (map (λ (key : Key). key.column) chosen), length-map chosen (λ (key : Key). key.column), length-filter (λ (key : Key). key.down) order, count_by-le-length (λ (key : Key). key.down) order)

-- ---- what is numbered
module _ (old m1 : Made) (list : PaddedList) (partition : List ℕ) (order : List Key) (downs : List ℕ) (inverted : List (List (List ℕ))) (shaped : IsShaped list) (e : downs ≡ down_columns order)
    (a : Makes old m1 (each (inverted_gates list) downs (length old.gates)) inverted) where
  columns_made : (columns : List (List (List ℕ))) → columns ≡ own_columns list ++ inverted → Makes old m1 (compared_gates list order (length old.gates)) columns
  columns_made columns is =
      let first = subst (λ (ds : List ℕ). Makes old m1 (each (inverted_gates list) ds (length old.gates)) inverted) e a in
      subst (λ (cs : List (List (List ℕ))). Makes old m1 (compared_gates list order (length old.gates)) cs) (sym is)
      (along_end old m1 (compared_gates list order) (own_columns list ++ inverted)
      (along_next old old m1 (compared_gates list order) (each (inverted_gates list) (down_columns order)) (λ inverted. gives (own_columns list ++ inverted)) inverted (along_begin old (compared_gates list order)) first))

  pub compares : (fits : KeysFit (length list.kinds) partition order) → length list.kinds + length order < 2 ^ 32 → words_for list.len < 2 ^ 32 → (old_there : IsThere old list) → ColumnsThere (length m1.gates) inverted
      → (r : Ranked) → r.valid ≡ list.valid → r.columns ≡ own_columns list ++ inverted → r.partition ≡ partition → r.key ≡ map (place_of_key (length list.kinds) order) (sort_key order (length list.kinds)) → Compares old m1 list partition order r
  compares fits few few_words t g r v cs p k =
      let is : r ≡ ranked_of list partition order r.columns
      = ap (λ (x : List ℕ). record { valid = x; columns = r.columns; partition = r.partition; key = r.key }) v
      ∙ ap (λ (x : List ℕ). record { valid = list.valid; columns = r.columns; partition = x; key = r.key }) p
      ∙ ap (λ (x : List ℕ). record { valid = list.valid; columns = r.columns; partition = partition; key = x }) k in
      let rises = makes_rises old m1 _ inverted a in
      let n : ℕ = length list.kinds in
      let count : length r.columns ≡ n + length (down_columns order) = ap length cs ∙ compared_count list downs (length old.gates) inverted a.gives ∙ ap (λ (ds : List ℕ). n + length ds) e in
      record {
        made = columns_made r.columns cs;
        is = is;
        there = record {
          valid_there = subst (λ (xs : List ℕ). GatesThere (length m1.gates) xs) (sym v) (gates_later (length old.gates) (length m1.gates) rises list.valid t.valid);
          columns_there = subst (λ (xs : List (List (List ℕ))). ColumnsThere (length m1.gates) xs) (sym cs) (compared_there (length m1.gates) list inverted (planes_later (length old.gates) (length m1.gates) rises list.planes t.planes) g);
          words = λ w h. subst (λ (xs : List (List (List ℕ))). ColumnsReach w xs) (sym cs) (compared_reach w list downs (length old.gates) inverted shaped (omega (arith, h, ap length v, shaped.valid)) a.gives);
          partition_in = subst (λ (xs : List ℕ). All (λ place. place < length r.columns) xs) (sym p) (λ i d l. let h = from_rec (λ c. c < n) partition fits.parts i d l in omega (arith, h, count));
          key_in = subst (λ (xs : List ℕ). All (λ place. place < length r.columns) xs) (sym k) (λ i d l. let h = key_in n order fits.keys i d l in omega (arith, h, count));
          few = omega (arith, count, few, downs_few order);
          few_words = omega (arith, ap length v, shaped.valid, few_words);
        };
      }

pub no_columns : (old new : Made) (list : PaddedList) (order : List Key) (downs : List ℕ) (err : BuildErr) → downs ≡ down_columns order → Stops old new (each (inverted_gates list) downs (length old.gates)) err → Stops old new (compared_gates list order (length old.gates)) err
no_columns old new list order downs err e s = along_stops old old new (compared_gates list order) (each (inverted_gates list) (down_columns order)) (λ inverted. gives (own_columns list ++ inverted)) err (along_begin old (compared_gates list order))
    (subst (λ (ds : List ℕ). Stops old new (each (inverted_gates list) ds (length old.gates)) err) e s)

pub exit_match : {A : Type 0} (result : Result A BuildErr) (P : A → Type 0) (Q : BuildErr → Type 0) (err : BuildErr) → IsErrAnd result (λ e. e ≡ err) → Q err → MatchResult result P Q
exit_match (Err e) P Q err is q = subst (λ (e : BuildErr). Q e) (sym is) q
exit_match (Ok x) P Q err is q = absurd is

pub words_few : (len : ℕ) → len < 2 ^ 32 → words_for len < 2 ^ 32
unfolding words_for
words_few len h = omega (arith, h)
