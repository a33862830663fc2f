-- A round for each And gate: these are rounds too.
use Rattle.std.proofs.Common.{◌≡◌, ℕ, zero, suc, ◌+◌, ◌<◌, ◌≤◌, List, [], ◌∷◌, length, take, ap, ◌∙◌, subst, arith, length-append}
use Rattle.std.specs.Prelude.{slice_index, slice_index_or}
use Rattle.std.proofs.lemmas.List.{take-take, take_more}
use Rattle.std.proofs.lemmas.List.FromFn.{get_or-map-range_with_len}
use Rattle.pdn_circuit.specs.declared.gate.Gate.{Gate}
use Rattle.pdn_circuit.specs.declared.gate.Gate.TheVariants.{Input, Given, Const, Xor, And, Spread, Move}
use Rattle.pdn_circuit.specs.Gates.{NamesBelow, InOrder, ands, operands_of}
use Rattle.pdn_circuit.specs.Depths.{IsAfter, InRounds, counts_of}
use Rattle.pdn_circuit.proofs.ValueLaws.{ands_more}

fewer : (gates : List Gate) (i : ℕ) → length (ands (take i gates)) ≤ length (ands gates)
fewer gates zero = omega arith
fewer [] (suc i) = omega arith
fewer (g ∷ gs) (suc i) = let h = fewer gs i in omega (arith, length-append (operands_of g) (ands (take i gs)), length-append (operands_of g) (ands gs))

rises : (gates : List Gate) (i k : ℕ) → i ≤ k → length (ands (take i gates)) ≤ length (ands (take k gates))
rises gates i k h = subst (λ (gs : List Gate). length (ands gs) ≤ length (ands (take k gates))) (take-take i k gates h) (fewer (take k gates) i)

after_count : (round : ℕ → ℕ) (k own below : ℕ) (g : Gate) → ((x : ℕ) → x < k → round x ≤ below) → own ≡ below + length (operands_of g) → NamesBelow k g → IsAfter round own g
after_count round k own below (Input site index) h e n = tt
after_count round k own below (Given index) h e n = tt
after_count round k own below (Const word) h e n = tt
after_count round k own below (Xor a b) h e n = let x = h a n.0 in let y = h b n.1 in (omega arith, omega arith)
after_count round k own below (And a b) h e n = let x = h a n.0 in let y = h b n.1 in (omega arith, omega arith)
after_count round k own below (Spread a lane) h e n = let x = h a n in omega arith
after_count round k own below (Move a from width to) h e n = let x = h a n in omega arith

pub counts_in_rounds : (gates : List Gate) → InOrder gates → InRounds gates (counts_of gates)
counts_in_rounds gates o =
    let order = o.at in
    let at : (k : ℕ) → k < length gates → slice_index (counts_of gates) k ≡ length (ands (take (k + 1) gates))
    = λ k l. get_or-map-range_with_len (λ j. length (ands (take (j + 1) gates))) 0 (length gates) k k 0 l (omega arith) in
    record {
      at = λ k other l.
          let g : Gate = slice_index_or gates k other in
          let own : slice_index (counts_of gates) k ≡ length (ands (take k gates)) + length (operands_of g)
          = at k l ∙ ap (λ (gs : List Gate). length (ands gs)) (take_more gates k other l) ∙ ap length (ands_more (take k gates) g) ∙ length-append (ands (take k gates)) (operands_of g) in
          after_count (slice_index (counts_of gates)) k (slice_index (counts_of gates) k) (length (ands (take k gates))) g
          (λ x b. let r = rises gates (x + 1) k (omega arith) in let e = at x (omega arith) in omega arith)
          own (order k other l);
    }
