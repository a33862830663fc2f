-- The list that number gives is of the builder's gates.
use Rattle.std.proofs.Common.{◌≡◌, ℕ, zero, suc, ◌*◌, ◌<◌, ◌≤◌, List, [], ◌∷◌, length, get_or, map, replicate, refl, sym, ap, subst, arith}
use Rattle.std.specs.Prelude.{slice_index}
use Rattle.std.proofs.lemmas.List.Elements.{All-replicate, All-map, All-weaker}
use Rattle.pdn_base.specs.declared.order.Key.{Key}
use Rattle.pdn_circuit.specs.Building.{Made}
use Rattle.pdn_circuit.specs.Compare.{zero_gate}
use Rattle.pdn_obl_rows.specs.Lists.{PaddedList, IsShaped, words_for}
use Rattle.pdn_obl_rows.specs.Operators.{IsThere}
use Rattle.pdn_obl_rows.proofs.ThereLaws.{filled_there, there_later}
use Rattle.pdn_obl_group.specs.Loops.{bits, no_count, count_planes, counts_column}
use Rattle.pdn_obl_rank.specs.Numbers.{Ranked, ranked_of, with_counts}
use Rattle.pdn_obl_rank.specs.Building.{GatesThere, PlanesThere}
use Rattle.pdn_obl_rank.proofs.CompareLaws.{all_joined, all_made}

-- the words have a lane for each row
pub rows_fit : (list : PaddedList) (partition : List ℕ) (order : List Key) (columns : List (List (List ℕ))) (r : Ranked) (len : ℕ) → len ≡ list.len → IsShaped list → r ≡ ranked_of list partition order columns → len ≤ 64 * length r.valid
unfolding words_for
rows_fit list partition order columns r len e shaped is = omega (arith, e, shaped.valid, ap (λ (x : Ranked). length x.valid) is)

-- counters of 0 are of gate 0
pub zeros_there : (n words rows : ℕ) (counters : List (List ℕ)) → 2 ≤ n → counters ≡ replicate words (no_count rows) → PlanesThere n counters
zeros_there n words rows counters h e =
    subst (λ (xs : List (List ℕ)). PlanesThere n xs) (sym e)
    (All-replicate (GatesThere n) words (no_count rows) (All-replicate (λ g. g < n) (bits rows) zero_gate (omega (arith, h))))

any_word : (n : ℕ) (gates : List ℕ) (k : ℕ) → 2 ≤ n → GatesThere n gates → get_or gates k 0 < n
any_word n [] k h g = omega (arith, h)
any_word n (x ∷ xs) zero h g = g 0 0 (omega arith)
any_word n (x ∷ xs) (suc k) h g = any_word n xs k h (λ i d l. g (suc i) d (omega arith))

counts_there : (n : ℕ) (counters : List (List ℕ)) → 2 ≤ n → PlanesThere n counters → PlanesThere n (counts_column counters)
counts_there n counters h g =
    all_made (GatesThere n) (λ p. map (λ counter. slice_index (count_planes counter) p) counters) 32
    (λ p l. All-map (λ g. g < n) (λ counter. slice_index (count_planes counter) p) counters
    (All-weaker (GatesThere n) (λ counter. slice_index (count_planes counter) p < n) (λ counter a. any_word n (count_planes counter) p h (filled_there n 32 counter (count_planes counter) (omega (arith, h)) a refl)) counters g))

pub numbered_there : (old now : Made) (list : PaddedList) (counters xs : List (List ℕ)) → length old.gates ≤ length now.gates → 2 ≤ length now.gates → IsThere old list → PlanesThere (length now.gates) counters → xs ≡ counters → IsThere now (with_counts list xs)
numbered_there old now list counters xs longer two t g e =
    let n : ℕ = length now.gates in
    let later = there_later old now list longer t in
    record {
      valid = later.valid;
      planes = all_joined (GatesThere n) list.planes (counts_column xs) later.planes (counts_there n xs two (subst (λ (ys : List (List ℕ)). PlanesThere n ys) (sym e) g));
    }
