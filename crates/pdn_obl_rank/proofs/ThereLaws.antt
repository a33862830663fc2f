-- Which planes are gates, and how many there are.
use Rattle.std.proofs.Common.{◌≡◌, ℕ, zero, suc, ◌+◌, ◌<◌, ◌≤◌, Bool, true, nat_eq, List, [], ◌∷◌, ◌++◌, length, get_or, take, refl, sym, ap, ◌∙◌, subst, arith, length-append, append_assoc, append-nil}
use Rattle.std.specs.Prelude.{slice_index_or}
use Rattle.std.specs.List.{All, AllByRecursion, range_with_len, list_any}
use Rattle.std.proofs.lemmas.List.FromFn.{length-range_with_len}
use Rattle.pdn_circuit.specs.Blocks.{Making, gives, ◌>>=◌, each}
use Rattle.pdn_obl_group.specs.Loops.{spread_gates}
use Rattle.pdn_obl_rank.proofs.CountLaws.{all_used}
use Rattle.std.proofs.lemmas.List.{take_more, length-map}
use Rattle.std.proofs.lemmas.List.Sums.{sum_by-cons}
use Rattle.pdn_obl_rows.specs.Lists.{word_planes}
use Rattle.pdn_obl_rank.specs.Keys.{planes_up, planes_down, row_columns, word_columns, spread_column, spread_used}
use Rattle.pdn_obl_rank.specs.Numbers.{Ranked, RowLanes, lanes_gates, row_gates, against_gates}
use Rattle.pdn_obl_rank.specs.Building.{GatesThere, PlanesThere, ColumnsThere, Reach, ColumnsReach, RankedThere, LanesThere, columns_width}
use Rattle.pdn_obl_rank.proofs.Looping.{gates_later, columns_later, range_at, range_in}

planes_up-append : (xs ys : List (List ℕ)) → planes_up (xs ++ ys) ≡ planes_up xs ++ planes_up ys
planes_up-append [] ys = refl
planes_up-append (x ∷ xs) ys = ap (λ zs. x ++ zs) (planes_up-append xs ys) ∙ sym (append_assoc x (planes_up xs) (planes_up ys))

pub up_more : (numbers : List (List ℕ)) (k : ℕ) (d : List ℕ) (old new : List ℕ) → k < length numbers → old ≡ planes_up (take k numbers) → new ≡ old ++ get_or numbers k d → new ≡ planes_up (take (k + 1) numbers)
up_more numbers k d old new h e f =
    let x : List ℕ = get_or numbers k d in
    f ∙ ap (λ (xs : List ℕ). xs ++ x) e
    ∙ sym (ap planes_up (take_more numbers k d h) ∙ planes_up-append (take k numbers) (x ∷ []) ∙ ap (λ (xs : List ℕ). planes_up (take k numbers) ++ xs) (append-nil x))

there_append : (n : ℕ) (xs ys : List ℕ) → GatesThere n xs → GatesThere n ys → GatesThere n (xs ++ ys)
there_append n [] ys g h k d l = h k d l
there_append n (x ∷ xs) ys g h zero d l = g zero d (omega arith)
there_append n (x ∷ xs) ys g h (suc k) d l = there_append n xs ys (λ i e m. g (suc i) e (omega arith)) h k d (omega arith)

pub up_there : (n : ℕ) (numbers : List (List ℕ)) → PlanesThere n numbers → GatesThere n (planes_up numbers)
up_there n [] g = λ k d h. absurd (omega arith)
up_there n (x ∷ xs) g = there_append n x (planes_up xs) (g 0 [] (omega arith)) (up_there n xs (λ i e m. g (suc i) e (omega arith)))

pub down_there : (n : ℕ) (numbers : List (List ℕ)) → PlanesThere n numbers → GatesThere n (planes_down numbers)
down_there n [] g = λ k d h. absurd (omega arith)
down_there n (x ∷ xs) g = there_append n (planes_down xs) x (down_there n xs (λ i e m. g (suc i) e (omega arith))) (g 0 [] (omega arith))

word_gates_there : (n w : ℕ) (planes : List (List ℕ)) → PlanesThere n planes → Reach w planes → GatesThere n (word_planes w planes)
word_gates_there n w [] g r k d l = absurd (omega arith)
word_gates_there n w (p ∷ ps) g r zero d l = g 0 [] (omega arith) w 0 (r 0 [] (omega arith))
word_gates_there n w (p ∷ ps) g r (suc k) d l = word_gates_there n w ps (λ i e m. g (suc i) e (omega arith)) (λ i e m. r (suc i) e (omega arith)) k d (omega arith)

pub word_there : (n w : ℕ) (columns : List (List (List ℕ))) (places : List ℕ) → ColumnsThere n columns → ColumnsReach w columns → All (λ p. p < length columns) places → PlanesThere n (word_columns columns w places)
word_there n w columns [] g r a k d l = absurd (omega arith)
word_there n w columns (p ∷ ps) g r a zero d l = word_gates_there n w (slice_index_or columns p []) (g p [] (a 0 0 (omega arith))) (r p [] (a 0 0 (omega arith)))
word_there n w columns (p ∷ ps) g r a (suc k) d l = word_there n w columns ps g r (λ i e m. a (suc i) e (omega arith)) k d (omega arith)

pub row_there : (n : ℕ) (row : List (List ℕ)) (places : List ℕ) → PlanesThere n row → All (λ p. p < length row) places → PlanesThere n (row_columns row places)
row_there n row [] g a k d l = absurd (omega arith)
row_there n row (p ∷ ps) g a zero d l = g p [] (a 0 0 (omega arith))
row_there n row (p ∷ ps) g a (suc k) d l = row_there n row ps g (λ i e m. a (suc i) e (omega arith)) k d (omega arith)

-- ---- widths
pub word_up_wide : (w : ℕ) (columns : List (List (List ℕ))) (places : List ℕ) → length (planes_up (word_columns columns w places)) ≡ columns_width columns places
word_up_wide w columns [] = refl
word_up_wide w columns (p ∷ ps) =
    omega (
      arith,
      length-append (word_planes w (slice_index_or columns p [])) (planes_up (word_columns columns w ps)),
      length-map (slice_index_or columns p []) (λ (plane : List ℕ). get_or plane w 0),
      word_up_wide w columns ps,
      sum_by-cons (λ q. length (slice_index_or columns q [])) p ps,
    )

pub word_down_wide : (w : ℕ) (columns : List (List (List ℕ))) (places : List ℕ) → length (planes_down (word_columns columns w places)) ≡ columns_width columns places
word_down_wide w columns [] = refl
word_down_wide w columns (p ∷ ps) =
    omega (
      arith,
      length-append (planes_down (word_columns columns w ps)) (word_planes w (slice_index_or columns p [])),
      length-map (slice_index_or columns p []) (λ (plane : List ℕ). get_or plane w 0),
      word_down_wide w columns ps,
      sum_by-cons (λ q. length (slice_index_or columns q [])) p ps,
    )

-- ---- what is there stays there
pub ranked_later : (m n : ℕ) → m ≤ n → (r : Ranked) → RankedThere m r → RankedThere n r
ranked_later m n h r t = record {
  valid_there = gates_later m n h r.valid t.valid_there;
  columns_there = columns_later m n h r.columns t.columns_there;
  words = t.words;
  partition_in = t.partition_in;
  key_in = t.key_in;
  few = t.few;
  few_words = t.few_words;
}

-- ---- a word's planes
module _ (n w : ℕ) (r : Ranked) (t : RankedThere n r) (low : w < length r.valid) (planes : List ℕ) where
  pub part_there : planes ≡ planes_up (word_columns r.columns w r.partition) → GatesThere n planes
  part_there e = subst (λ (ps : List ℕ). GatesThere n ps) (sym e) (up_there n _ (word_there n w r.columns r.partition t.columns_there (t.words w low) t.partition_in))

  pub part_wide : planes ≡ planes_up (word_columns r.columns w r.partition) → length planes ≡ columns_width r.columns r.partition
  part_wide e = ap length e ∙ word_up_wide w r.columns r.partition

  pub key_there : planes ≡ planes_down (word_columns r.columns w r.key) → GatesThere n planes
  key_there e = subst (λ (ps : List ℕ). GatesThere n ps) (sym e) (down_there n _ (word_there n w r.columns r.key t.columns_there (t.words w low) t.key_in))

  pub key_wide : planes ≡ planes_down (word_columns r.columns w r.key) → length planes ≡ columns_width r.columns r.key
  key_wide e = ap length e ∙ word_down_wide w r.columns r.key

-- ---- what each of a list gives
pub record EachHolds {X A : Type 0} (P : X → A → Type 0) (xs : List X) (ys : List A) : Type 0 where
  pub count : length ys ≡ length xs
  pub at : (k : ℕ) (d : X) (e : A) → k < length xs → P (get_or xs k d) (get_or ys k e)

pub each_gives : {X A : Type 0} (f : X → Making A) (P : X → A → Type 0) → ((x : X) (n : ℕ) → P x (f x n).result) → (xs : List X) (n : ℕ) → EachHolds P xs (each f xs n).result
unfolding gives ◌>>=◌
each_gives f P h [] n = record { count = refl; at = λ k d e l. absurd (omega arith) }
each_gives {X} {A} f P h (x ∷ xs) n =
    let rest = each_gives f P h xs (n + length (f x n).gates) in
    record { count = ap suc rest.count; at = λ k d e l. at_place k d e l rest.at }
  where
    at_place : (k : ℕ) (d : X) (e : A) → k < length (x ∷ xs) → ((i : ℕ) (d : X) (e : A) → i < length xs → P (get_or xs i d) (get_or (each f xs (n + length (f x n).gates)).result i e))
        → P (get_or (x ∷ xs) k d) (get_or ((f x n).result ∷ (each f xs (n + length (f x n).gates)).result) k e)
    at_place zero d e l all = h x n
    at_place (suc k) d e l all = all k d e (omega arith)

column_wide : (b : Bool) (planes : List (List ℕ)) (j n : ℕ) → b ≡ true → length (spread_column b planes j n).result ≡ length planes
column_wide b planes j n e =
    let holds = each_gives (spread_gates j) (λ p g. Unit {0}) (λ p m. tt) planes n in
    subst (λ b. length (spread_column b planes j n).result ≡ length planes) (sym e) holds.count

used_wide : (columns : List (List (List ℕ))) (used : List ℕ) (j n place : ℕ) → place < length columns → list_any (nat_eq place) used ≡ true
    → length (get_or (spread_used columns used j n).result place []) ≡ length (slice_index_or columns place [])
used_wide columns used j n place h u =
    let f : ℕ → Making (List ℕ) = λ place. spread_column (list_any (nat_eq place) used) (slice_index_or columns place []) j in
    let P : ℕ → List ℕ → Type 0 = λ place row. list_any (nat_eq place) used ≡ true → length row ≡ length (slice_index_or columns place []) in
    let holds = each_gives f P (λ place m e. column_wide (list_any (nat_eq place) used) (slice_index_or columns place []) j m e) (range_with_len 0 (length columns)) n in
    subst (λ p. P p (get_or (spread_used columns used j n).result place [])) (range_at (length columns) place h) (holds.at place 0 [] (range_in (length columns) place h)) u

pub used_count : (columns : List (List (List ℕ))) (used : List ℕ) (j n : ℕ) → length (spread_used columns used j n).result ≡ length columns
used_count columns used j n =
    let holds = each_gives (λ place. spread_column (list_any (nat_eq place) used) (slice_index_or columns place []) j) (λ p g. Unit {0}) (λ p m. tt) (range_with_len 0 (length columns)) n in
    holds.count ∙ length-range_with_len 0 (length columns)

row_up_wide : (row : List (List ℕ)) (columns : List (List (List ℕ))) (places : List ℕ) → AllByRecursion (λ p. length (slice_index_or row p []) ≡ length (slice_index_or columns p [])) places → length (planes_up (row_columns row places)) ≡ columns_width columns places
row_up_wide row columns [] a = refl
row_up_wide row columns (p ∷ ps) a =
    omega (arith, length-append (slice_index_or row p []) (planes_up (row_columns row ps)), a.0, row_up_wide row columns ps a.1, sum_by-cons (λ q. length (slice_index_or columns q [])) p ps)

row_down_wide : (row : List (List ℕ)) (columns : List (List (List ℕ))) (places : List ℕ) → AllByRecursion (λ p. length (slice_index_or row p []) ≡ length (slice_index_or columns p [])) places → length (planes_down (row_columns row places)) ≡ columns_width columns places
row_down_wide row columns [] a = refl
row_down_wide row columns (p ∷ ps) a =
    omega (arith, length-append (planes_down (row_columns row ps)) (slice_index_or row p []), a.0, row_down_wide row columns ps a.1, sum_by-cons (λ q. length (slice_index_or columns q [])) p ps)

all_by : (P Q R : ℕ → Type 0) → ((p : ℕ) → P p → Q p → R p) → (xs : List ℕ) → All P xs → AllByRecursion Q xs → AllByRecursion R xs
all_by P Q R f [] a b = tt
all_by P Q R f (x ∷ xs) a b = (f x (a 0 0 (omega arith)) b.0, all_by P Q R f xs (λ k d l. a (suc k) d (omega arith)) b.1)

pub lanes_there : (n m i j : ℕ) (r : Ranked) (valid : ℕ) (row : List (List ℕ)) (lanes : RowLanes) → RankedThere m r → row ≡ (spread_used r.columns (r.partition ++ r.key) j i).result → valid < n → PlanesThere n row
    → lanes ≡ record { valid = valid; part = planes_up (row_columns row r.partition); key = planes_down (row_columns row r.key) } → LanesThere n r lanes
lanes_there n m i j r valid row lanes t e v g is =
    let used : List ℕ = r.partition ++ r.key in
    let count : length row ≡ length r.columns = ap length e ∙ used_count r.columns used j i in
    let wide : (p : ℕ) → p < length r.columns → list_any (nat_eq p) used ≡ true → length (slice_index_or row p []) ≡ length (slice_index_or r.columns p [])
    = λ p h u. ap (λ (xs : List (List ℕ)). length (slice_index_or xs p [])) e ∙ used_wide r.columns used j i p h u in
    let within : (places : List ℕ) → All (λ p. p < length r.columns) places → All (λ p. p < length row) places = λ places a k d l. let h = a k d l in omega (arith, h, count) in
    subst (λ (l : RowLanes). LanesThere n r l) (sym is) (record {
      valid_there = v;
      part_there = up_there n _ (row_there n row r.partition g (within r.partition t.partition_in));
      key_there = down_there n _ (row_there n row r.key g (within r.key t.key_in));
      part_wide = row_up_wide row r.columns r.partition (all_by (λ p. p < length r.columns) (λ p. list_any (nat_eq p) used ≡ true) _ wide r.partition t.partition_in (all_used used [] r.partition r.key refl));
      key_wide = row_down_wide row r.columns r.key (all_by (λ p. p < length r.columns) (λ p. list_any (nat_eq p) used ≡ true) _ wide r.key t.key_in (all_used used r.partition r.key [] (ap (λ (ps : List ℕ). r.partition ++ ps) (append-nil r.key))));
    })

-- as many counters as before
pub row_gates_count : (r : Ranked) (j n : ℕ) (counters : List (List ℕ)) → length (row_gates r j counters n).result ≡ length counters
unfolding ◌>>=◌
row_gates_count r j n counters =
    let lanes = lanes_gates r j n in
    let l : RowLanes = lanes.result in
    let holds = each_gives (λ w. against_gates r l.valid l.part l.key j w (slice_index_or counters w [])) (λ w c. Unit {0}) (λ w m. tt) (range_with_len 0 (length counters)) (n + length lanes.gates) in
    holds.count ∙ length-range_with_len 0 (length counters)

pub row_within : (row : List (List ℕ)) (columns : List (List (List ℕ))) (used : List ℕ) (j i : ℕ) (places : List ℕ) → row ≡ (spread_used columns used j i).result → All (λ p. p < length columns) places → All (λ p. p < length row) places
row_within row columns used j i places e a = λ k d l. let h = a k d l in omega (arith, h, ap length e, used_count columns used j i)
