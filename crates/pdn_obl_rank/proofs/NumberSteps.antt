-- The gates of number, made one after the other.
use Rattle.std.proofs.Common.{◌≡◌, ℕ, List, length, replicate, Result, Ok, Err, sym, ap, ◌∙◌, subst}
use Rattle.std.specs.Prelude.{IfOk, IfErr}
use Rattle.pdn_base.specs.declared.order.Key.{Key}
use Rattle.pdn_circuit.specs.declared.tally.BuildErr.{BuildErr}
use Rattle.pdn_circuit.specs.declared.tally.BuildErr.TheVariants.{Memory}
use Rattle.pdn_circuit.specs.Blocks.{Making, gives, ◌>>=◌}
use Rattle.pdn_circuit.specs.Building.{Made, Makes, Stops, Tries, Along}
use Rattle.pdn_circuit.proofs.Making.{along_begin, along_next, along_stops, along_end, along_memory}
use Rattle.pdn_obl_rows.specs.Lists.{PaddedList}
use Rattle.pdn_obl_group.specs.Loops.{in_turn, no_count}
use Rattle.pdn_obl_rank.specs.Keys.{compared_gates}
use Rattle.pdn_obl_rank.specs.Numbers.{Ranked, ranked_of, row_gates, with_counts, number_gates}
use Rattle.pdn_obl_rank.specs.Building.{Compares}

module _ (old : Made) (list : PaddedList) (partition : List ℕ) (order : List Key) where
  abbrev whole : Making PaddedList
  whole = number_gates list partition order

  abbrev counting : List (List (List ℕ)) → Making (List (List ℕ))
  counting columns = in_turn (row_gates (ranked_of list partition order columns)) 0 list.len (replicate (length list.valid) (no_count list.len))

  abbrev last_of : List (List ℕ) → Making PaddedList
  last_of counters = gives (with_counts list counters)

  abbrev rest : List (List (List ℕ)) → Making PaddedList
  rest columns = counting columns >>= last_of

  pub not_compared : (new : Made) (err : BuildErr) → Stops old new (compared_gates list order (length old.gates)) err → Stops old new (whole (length old.gates)) err
  not_compared new err s = along_stops old old new whole (compared_gates list order) rest err (along_begin old whole) s

  module _ (m1 : Made) (r : Ranked) (cmp : Compares old m1 list partition order r) (len : ℕ) (none : List (List ℕ)) (el : len ≡ list.len) (en : none ≡ replicate (length list.valid) (no_count list.len)) where
    s1 : Along old whole m1 (rest r.columns)
    s1 = along_next old old m1 whole (compared_gates list order) rest r.columns (along_begin old whole) cmp.made

    same_counting : in_turn (row_gates r) 0 len none ≡ counting r.columns
    same_counting = ap (λ (x : Ranked). in_turn (row_gates x) 0 len none) cmp.is ∙ ap (λ n. in_turn (row_gates (ranked_of list partition order r.columns)) 0 n none) el
        ∙ ap (λ (x : List (List ℕ)). in_turn (row_gates (ranked_of list partition order r.columns)) 0 list.len x) en

    pub not_counted : (new : Made) (err : BuildErr) → Stops m1 new (in_turn (row_gates r) 0 len none (length m1.gates)) err → Stops old new (whole (length old.gates)) err
    not_counted new err s = along_stops old m1 new whole (counting r.columns) last_of err s1 (subst (λ (m : Making (List (List ℕ))). Stops m1 new (m (length m1.gates)) err) same_counting s)

    pub numbered : (m2 : Made) (counters : List (List ℕ)) (xs : List (List ℕ)) (result : Result PaddedList BuildErr) → Makes m1 m2 (in_turn (row_gates r) 0 len none (length m1.gates)) counters → xs ≡ counters
        → IfOk result (λ out. out ≡ with_counts list xs) → IfErr result (λ err. err ≡ Memory) → Tries old m2 whole result
    numbered m2 counters xs (Ok out) made e o q =
        let along = along_next old m1 m2 whole (counting r.columns) last_of counters s1 (subst (λ (m : Making (List (List ℕ))). Makes m1 m2 (m (length m1.gates)) counters) same_counting made) in
        subst (λ (l : PaddedList). Makes old m2 (whole (length old.gates)) l) (sym (o ∙ ap (with_counts list) e)) (along_end old m2 whole (with_counts list counters) along)
    numbered m2 counters xs (Err err) made e o q =
        let along = along_next old m1 m2 whole (counting r.columns) last_of counters s1 (subst (λ (m : Making (List (List ℕ))). Makes m1 m2 (m (length m1.gates)) counters) same_counting made) in
        subst (λ (x : BuildErr). Stops old m2 (whole (length old.gates)) x) (sym q) (along_memory old m2 whole (last_of counters) along)
