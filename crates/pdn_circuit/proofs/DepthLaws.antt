-- Depths are rounds.
use Rattle.std.proofs.Common.{◌≡◌, ℕ, zero, suc, ◌+◌, ◌<◌, List, [], ◌∷◌, ◌++◌, length, get_or, refl, sym, ap, ◌∙◌, subst, arith, length-append}
use Rattle.std.specs.Prelude.{slice_index, slice_index_or}
use Rattle.std.specs.List.{fold}
use Rattle.std.proofs.lemmas.List.{get_or_append_left, get_or_at}
use Rattle.pdn_circuit.specs.declared.gate.Gate.{Gate}
use Rattle.pdn_circuit.specs.declared.gate.Gate.TheVariants.{Input, Given, Const, Xor, And, Spread, Move}
use Rattle.pdn_circuit.specs.Gates.{NamesBelow, InOrder}
use Rattle.pdn_circuit.specs.Depths.{IsAfter, InRounds, gate_depth, next_depths, depths_of}

pub depths_stand : (gates : List Gate) (ds : List ℕ) (k : ℕ) → k < length ds → get_or (fold next_depths ds gates) k 0 ≡ get_or ds k 0
depths_stand [] ds k h = refl
depths_stand (g ∷ gs) ds k h =
    let new : List ℕ = gate_depth ds g ∷ [] in
    depths_stand gs (ds ++ new) k (omega (arith, length-append ds new)) ∙ get_or_append_left ds new 0 k h

after_here : (ds whole : List ℕ) (g : Gate) → ((k : ℕ) → k < length ds → get_or whole k 0 ≡ get_or ds k 0) → NamesBelow (length ds) g → IsAfter (slice_index whole) (gate_depth ds g) g
after_here ds whole (Input site index) h n = tt
after_here ds whole (Given index) h n = tt
after_here ds whole (Const word) h n = tt
after_here ds whole (Xor a b) h n = let x = h a n.0 in let y = h b n.1 in (omega arith, omega arith)
after_here ds whole (And a b) h n = let x = h a n.0 in let y = h b n.1 in (omega arith, omega arith)
after_here ds whole (Spread a lane) h n = let x = h a n in omega arith
after_here ds whole (Move a from count to) h n = let x = h a n in omega arith

depths_along : (gates : List Gate) (ds whole : List ℕ) → whole ≡ fold next_depths ds gates
    → ((k : ℕ) (other : Gate) → k < length gates → NamesBelow (length ds + k) (slice_index_or gates k other))
    → (k : ℕ) (other : Gate) → k < length gates → IsAfter (slice_index whole) (slice_index whole (length ds + k)) (slice_index_or gates k other)
depths_along [] ds whole e h k other l = absurd (omega arith)
depths_along (g ∷ gs) ds whole e h zero other l =
    let new : List ℕ = gate_depth ds g ∷ [] in
    let stand : (k : ℕ) → k < length ds → get_or whole k 0 ≡ get_or ds k 0 = λ k b. ap (λ (xs : List ℕ). get_or xs k 0) e ∙ depths_stand (g ∷ gs) ds k b in
    let here : NamesBelow (length ds) g = subst (λ (n : ℕ). NamesBelow n g) (omega arith) (h 0 g (omega arith)) in
    let own : get_or whole (length ds + 0) 0 ≡ gate_depth ds g
    = ap (λ (xs : List ℕ). get_or xs (length ds + 0) 0) e ∙ depths_stand gs (ds ++ new) (length ds + 0) (omega (arith, length-append ds new)) ∙ get_or_at ds (gate_depth ds g) [] 0 (length ds + 0) (omega arith) in
    subst (λ (n : ℕ). IsAfter (slice_index whole) n g) (sym own) (after_here ds whole g stand here)
depths_along (g ∷ gs) ds whole e h (suc k) other l =
    let new : List ℕ = gate_depth ds g ∷ [] in
    let rest = depths_along gs (ds ++ new) whole e (λ i o b. subst (λ (n : ℕ). NamesBelow n (slice_index_or gs i o)) (omega (arith, length-append ds new)) (h (suc i) o (omega arith))) k other (omega arith) in
    subst (λ (n : ℕ). IsAfter (slice_index whole) (slice_index whole n) (slice_index_or gs k other)) (omega (arith, length-append ds new)) rest

pub depths_in_rounds : (gates : List Gate) → InOrder gates → InRounds gates (depths_of gates)
depths_in_rounds gates o = let order = o.at in record {
  at = λ k other l. subst (λ (n : ℕ). IsAfter (slice_index (depths_of gates)) (slice_index (depths_of gates) n) (slice_index_or gates k other)) (omega arith)
      (depths_along gates [] (depths_of gates) refl (λ i o b. subst (λ (n : ℕ). NamesBelow n (slice_index_or gates i o)) (omega arith) (order i o b)) k other l);
}
