-- The gates of one row's lanes, made one after the other.
use Rattle.std.proofs.Common.{◌≡◌, ℕ, ◌<◌, List, ◌++◌, length, sym, ap, ◌∙◌, subst, arith}
use Rattle.std.specs.List.{All}
use Rattle.pdn_circuit.specs.declared.tally.BuildErr.{BuildErr}
use Rattle.pdn_circuit.specs.Blocks.{Making, gives, ◌>>=◌}
use Rattle.pdn_circuit.specs.Building.{Made, Makes, Refuses, Stops, Along}
use Rattle.pdn_circuit.proofs.Making.{along_begin, along_next, along_stops, along_refused, along_end}
use Rattle.pdn_obl_group.specs.Loops.{spread_gates}
use Rattle.pdn_obl_rank.specs.Keys.{planes_up, planes_down, row_columns, spread_used}
use Rattle.pdn_obl_rank.specs.Numbers.{Ranked, RowLanes, lanes_gates}
use Rattle.pdn_obl_rank.specs.Building.{PlanesThere, RankedThere, LanesThere}
use Rattle.pdn_obl_rank.proofs.Looping.{makes_rises}
use Rattle.pdn_obl_rank.proofs.ThereLaws.{lanes_there, row_within}

module _ (old : Made) (r : Ranked) (j : ℕ) (v : List ℕ) (cs : List (List (List ℕ))) (used : List ℕ) (ev : v ≡ r.valid) (ec : cs ≡ r.columns) (eu : used ≡ r.partition ++ r.key) where
  abbrev whole : Making RowLanes
  whole = lanes_gates r j

  abbrev lanes : ℕ → List (List ℕ) → RowLanes
  lanes valid row = record { valid = valid; part = planes_up (row_columns row r.partition); key = planes_down (row_columns row r.key) }

  abbrev rest : ℕ → Making RowLanes
  rest valid = spread_used r.columns (r.partition ++ r.key) j >>= λ row. gives (lanes valid row)

  same_used : spread_used cs used j ≡ spread_used r.columns (r.partition ++ r.key) j
  same_used = ap (λ (xs : List (List (List ℕ))). spread_used xs used j) ec ∙ ap (λ (xs : List ℕ). spread_used r.columns xs j) eu

  pub no_valid : (new : Made) (err : BuildErr) → Refuses old new (spread_gates j v (length old.gates)) err → Stops old new (whole (length old.gates)) err
  no_valid new err f = along_refused old old new whole _ rest err (along_begin old whole) (subst (λ (xs : List ℕ). Refuses old new (spread_gates j xs (length old.gates)) err) ev f)

  module _ (m1 : Made) (valid : ℕ) (a : Makes old m1 (spread_gates j v (length old.gates)) valid) where
    s1 : Along old whole m1 (rest valid)
    s1 = along_next old old m1 whole _ rest valid (along_begin old whole) (subst (λ (xs : List ℕ). Makes old m1 (spread_gates j xs (length old.gates)) valid) ev a)

    pub no_row : (new : Made) (err : BuildErr) → Stops m1 new (spread_used cs used j (length m1.gates)) err → Stops old new (whole (length old.gates)) err
    no_row new err f = along_stops old m1 new whole _ (λ row. gives (lanes valid row)) err s1 (subst (λ (m : Making (List (List ℕ))). Stops m1 new (m (length m1.gates)) err) same_used f)

    module _ (m2 : Made) (row : List (List ℕ)) (b : Makes m1 m2 (spread_used cs used j (length m1.gates)) row) (t : RankedThere (length old.gates) r) where
      made_row : Makes m1 m2 (spread_used r.columns (r.partition ++ r.key) j (length m1.gates)) row
      made_row = subst (λ (m : Making (List (List ℕ))). Makes m1 m2 (m (length m1.gates)) row) same_used b

      pub lanes_made : (all : RowLanes) (xs : List (List ℕ)) → xs ≡ row → all ≡ lanes valid xs → Makes old m2 (whole (length old.gates)) all
      lanes_made all xs e is = subst (λ (l : RowLanes). Makes old m2 (whole (length old.gates)) l) (sym (is ∙ ap (lanes valid) e)) (along_end old m2 whole (lanes valid row) (along_next old m1 m2 whole _ (λ row. gives (lanes valid row)) row s1 made_row))

      pub made_there : (all : RowLanes) (xs : List (List ℕ)) → xs ≡ row → all ≡ lanes valid xs → valid < length m1.gates → PlanesThere (length m2.gates) row → LanesThere (length m2.gates) r all
      made_there all xs e is low g =
          let made = made_row in
          let rises = makes_rises m1 m2 _ row made in
          lanes_there (length m2.gates) (length old.gates) (length m1.gates) j r valid row all t made.gives (omega (arith, low, rises)) g (is ∙ ap (lanes valid) e)

      pub places_within : (places : List ℕ) (xs : List (List ℕ)) → xs ≡ row → All (λ p. p < length r.columns) places → All (λ p. p < length xs) places
      places_within places xs e a = let made = made_row in row_within xs r.columns (r.partition ++ r.key) j (length m1.gates) places (e ∙ made.gives) a
