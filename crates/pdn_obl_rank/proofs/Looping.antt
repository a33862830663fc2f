-- Loops that make the gates of a list, element by element.
use Rattle.std.proofs.Common.{◌≡◌, ℕ, zero, suc, ◌+◌, ◌-◌, ◌<◌, ◌≤◌, List, [], ◌∷◌, ◌++◌, length, get_or, drop, Result, Ok, Err, Vec, Global, sym, ◌∙◌, subst, arith}
use Rattle.std.specs.List.{All, range_with_len}
use Rattle.std.proofs.lemmas.List.FromFn.{get_or-range_with_len, length-range_with_len}
use Rattle.std.specs.Result.{IsErrAnd}
use Rattle.std.proofs.lemmas.List.{drop_more, drop_all}
use Rattle.pdn_circuit.specs.declared.tally.BuildErr.{BuildErr}
use Rattle.pdn_circuit.specs.declared.tally.BuildErr.TheVariants.{Memory}
use Rattle.pdn_circuit.specs.Blocks.{Block, Making, ◌>>=◌, each}
use Rattle.pdn_circuit.specs.Building.{Made, Makes, Refuses, Stops, Along}
use Rattle.pdn_circuit.proofs.Making.{along_begin, along_next, along_stops, along_end, along_last, along_last_stops, give_after, stops, along_memory, makes_longer, each_begin, each_next, each_stops, each_end}
use Rattle.pdn_obl_group.specs.Loops.{in_turn}
use Rattle.pdn_obl_rank.specs.Building.{TriesItems, GatesThere, PlanesThere, ColumnsThere}

-- of a list so many were made
abbrev pub AlongEach : {X A : Type 0} → (X → Making A) → Made → Made → List X → ℕ → List A → Type 0
AlongEach f old now xs k front = Along old (each f xs) now (each f (drop k xs) >>= give_after front)

module _ {X A : Type 0} (f : X → Making A) (old : Made) (xs : List X) where
  pub loop_begin : (front : List A) → front ≡ [] → AlongEach f old old xs 0 front
  loop_begin front e = subst (λ (front : List A). AlongEach f old old xs 0 front) (sym e) (each_begin old f xs)

  module _ (now : Made) (k : ℕ) (front : List A) (x : X) (d : X) (e : get_or xs k d ≡ x) (h : k < length xs) (a : AlongEach f old now xs k front) where
    opened : Along old (each f xs) now (each f (x ∷ drop (k + 1) xs) >>= give_after front)
    opened = subst (λ (y : X). Along old (each f xs) now (each f (y ∷ drop (k + 1) xs) >>= give_after front)) e (subst (λ (ys : List X). Along old (each f xs) now (each f ys >>= give_after front)) (drop_more xs k d h) a)

    pub loop_stops : (new : Made) (err : BuildErr) → Stops now new (f x (length now.gates)) err → Stops old new (each f xs (length old.gates)) err
    loop_stops new err s = each_stops old now new (each f xs) f x (drop (k + 1) xs) front err opened s

    pub loop_refuses : (new : Made) (err : BuildErr) → Refuses now new (f x (length now.gates)) err → Stops old new (each f xs (length old.gates)) err
    loop_refuses new err r = loop_stops new err (stops now new (f x (length now.gates)) err r)

    pub loop_next : (new : Made) (y : A) (more : List A) → Makes now new (f x (length now.gates)) y → more ≡ front ++ y ∷ [] → AlongEach f old new xs (k + 1) more
    loop_next new y more m n = subst (λ (ys : List A). AlongEach f old new xs (k + 1) ys) (sym n) (each_next old now new (each f xs) f x (drop (k + 1) xs) front y opened m)

    pub loop_memory : (new : Made) (y : A) → Makes now new (f x (length now.gates)) y → Stops old new (each f xs (length old.gates)) Memory
    loop_memory new y m = along_memory old new (each f xs) _ (each_next old now new (each f xs) f x (drop (k + 1) xs) front y opened m)

  pub loop_end : (now : Made) (k : ℕ) (front : List A) → length xs ≤ k → AlongEach f old now xs k front → Makes old now (each f xs (length old.gates)) front
  loop_end now k front h a = each_end old now (each f xs) f front (subst (λ (ys : List X). Along old (each f xs) now (each f ys >>= give_after front)) (drop_all k xs h) a)

pub exit_items : {A : Type 0} (old now : Made) (making : Making (List A)) (result : Result (Vec A Global) BuildErr) (err : BuildErr) → IsErrAnd result (λ e. e ≡ err) → Stops old now (making (length old.gates)) err → TriesItems old now making result
exit_items {A} old now making (Err e) err is s = subst (λ (e : BuildErr). Stops old now (making (length old.gates)) e) (sym is) s
exit_items {A} old now making (Ok x) err is s = absurd is

-- ---- what is there
pub all_none : {A : Type 0} (P : A → Type 0) (xs : List A) → xs ≡ [] → All P xs
all_none {A} P xs e = subst (λ (ys : List A). All P ys) (sym e) (λ k d h. absurd (omega arith))

pub all_push : {A : Type 0} (P Q : A → Type 0) (front : List A) (y : A) (more : List A) → ((x : A) → P x → Q x) → All P front → Q y → more ≡ front ++ y ∷ [] → All Q more
all_push {A} P Q front y more f h here e = subst (λ (ys : List A). All Q ys) (sym e) (at front h)
  where
    at : (xs : List A) → All P xs → All Q (xs ++ y ∷ [])
    at [] g zero d l = here
    at [] g (suc k) d l = absurd (omega arith)
    at (x ∷ xs) g zero d l = f x (g zero d (omega arith))
    at (x ∷ xs) g (suc k) d l = at xs (λ i d m. g (suc i) d (omega arith)) k d (omega arith)

pub gates_later : (m n : ℕ) → m ≤ n → (gates : List ℕ) → GatesThere m gates → GatesThere n gates
gates_later m n h gates g = λ k d l. let t = g k d l in omega (arith, t, h)

pub planes_later : (m n : ℕ) → m ≤ n → (planes : List (List ℕ)) → PlanesThere m planes → PlanesThere n planes
planes_later m n h planes g = λ k d l. gates_later m n h (get_or planes k d) (g k d l)

pub columns_later : (m n : ℕ) → m ≤ n → (columns : List (List (List ℕ))) → ColumnsThere m columns → ColumnsThere n columns
columns_later m n h columns g = λ k d l. planes_later m n h (get_or columns k d) (g k d l)

pub makes_rises : {A : Type 0} (old now : Made) (block : Block A) (x : A) → Makes old now block x → length old.gates ≤ length now.gates
makes_rises old now block x m = omega (arith, makes_longer old now block x m)

pub gates_none : (n : ℕ) (xs : List ℕ) → xs ≡ [] → GatesThere n xs
gates_none n xs e = all_none (λ g. g < n) xs e

pub planes_none : (n : ℕ) (xs : List (List ℕ)) → xs ≡ [] → PlanesThere n xs
planes_none n xs e = all_none (GatesThere n) xs e

pub columns_none : (n : ℕ) (xs : List (List (List ℕ))) → xs ≡ [] → ColumnsThere n xs
columns_none n xs e = all_none (PlanesThere n) xs e

pub gates_push : (m n : ℕ) → m ≤ n → (front : List ℕ) (y : ℕ) (more : List ℕ) → GatesThere m front → y < n → more ≡ front ++ y ∷ [] → GatesThere n more
gates_push m n h front y more g here e = all_push (λ g. g < m) (λ g. g < n) front y more (λ g k. omega (arith, h, k)) g here e

pub planes_push : (m n : ℕ) → m ≤ n → (front : List (List ℕ)) (y : List ℕ) (more : List (List ℕ)) → PlanesThere m front → GatesThere n y → more ≡ front ++ y ∷ [] → PlanesThere n more
planes_push m n h front y more g here e = all_push (GatesThere m) (GatesThere n) front y more (gates_later m n h) g here e

pub columns_push : (m n : ℕ) → m ≤ n → (front : List (List (List ℕ))) (y : List (List ℕ)) (more : List (List (List ℕ))) → ColumnsThere m front → PlanesThere n y → more ≡ front ++ y ∷ [] → ColumnsThere n more
columns_push m n h front y more g here e = all_push (PlanesThere m) (PlanesThere n) front y more (planes_later m n h) g here e

-- ---- over a range
pub range_at : (n k : ℕ) → k < n → get_or (range_with_len 0 n) k 0 ≡ k
range_at n k h = get_or-range_with_len 0 n k 0 h ∙ omega arith

pub range_in : (n k : ℕ) → k < n → k < length (range_with_len 0 n)
range_in n k h = omega (arith, h, length-range_with_len 0 n)

pub range_end : (n k : ℕ) → n ≤ k → length (range_with_len 0 n) ≤ k
range_end n k h = omega (arith, h, length-range_with_len 0 n)

-- ---- steps in turn
module _ {A : Type 0} (step : ℕ → A → Making A) (old now : Made) (whole : Making A) (n k : ℕ) (acc : A) where
  turn_opened : k < n → Along old whole now (in_turn step k (n - k) acc) → Along old whole now (step k acc >>= in_turn step (k + 1) (n - (k + 1)))
  turn_opened h a =
      let e : n - k ≡ suc (n - (k + 1)) = omega (arith, h) in
      subst (λ m. Along old whole now (in_turn step k m acc)) e a

  pub turn_stops : k < n → Along old whole now (in_turn step k (n - k) acc) → (new : Made) (err : BuildErr) → Stops now new (step k acc (length now.gates)) err → Stops old new (whole (length old.gates)) err
  turn_stops h a new err s = along_stops old now new whole (step k acc) (in_turn step (k + 1) (n - (k + 1))) err (turn_opened h a) s

  pub turn_next : k < n → Along old whole now (in_turn step k (n - k) acc) → (new : Made) (next : A) → Makes now new (step k acc (length now.gates)) next → Along old whole new (in_turn step (k + 1) (n - (k + 1)) next)
  turn_next h a new next m = along_next old now new whole (step k acc) (in_turn step (k + 1) (n - (k + 1))) next (turn_opened h a) m

  pub turn_end : n ≤ k → Along old whole now (in_turn step k (n - k) acc) → Makes old now (whole (length old.gates)) acc
  turn_end h a =
      let e : n - k ≡ 0 = omega (arith, h) in
      along_end old now whole acc (subst (λ m. Along old whole now (in_turn step k m acc)) e a)

pub turn_begin : {A : Type 0} (step : ℕ → A → Making A) (old : Made) (n : ℕ) (acc : A) → Along old (in_turn step 0 n acc) old (in_turn step 0 (n - 0) acc)
turn_begin step old n acc =
    let e : n ≡ n - 0 = omega arith in
    subst (λ m. Along old (in_turn step 0 n acc) old (in_turn step 0 m acc)) e (along_begin old (in_turn step 0 n acc))

-- the last step of a call that gives a list
pub last_items : {A : Type 0} (old now new : Made) (whole last : Making (List A)) (result : Result (Vec A Global) BuildErr) → Along old whole now last → TriesItems now new last result → TriesItems old new whole result
last_items old now new whole last (Ok x) a t = along_last old now new whole last x.items a t
last_items old now new whole last (Err e) a t = along_last_stops old now new whole last e a t
