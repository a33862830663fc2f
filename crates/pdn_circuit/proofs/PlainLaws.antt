-- Words that satisfy their gates, and what makings yield over them.
use Rattle.std.proofs.Common.{◌≡◌, ℕ, zero, suc, ◌+◌, ◌<◌, List, [], ◌∷◌, ◌++◌, length, get_or, refl, sym, ap, ◌∙◌, subst, arith, length-append}
use Rattle.std.specs.Prelude.{slice_index, slice_index_or}
use Rattle.std.specs.List.{fold}
use Rattle.std.proofs.lemmas.List.{get_or_at}
use Rattle.pdn_circuit.specs.declared.gate.Gate.{Gate}
use Rattle.pdn_circuit.specs.declared.gate.Gate.TheVariants.{Input, Given, Const, Xor, And, Spread, Move}
use Rattle.pdn_circuit.specs.Gates.{InputWords, gate_value, next_values, values, NamesBelow, InOrder}
use Rattle.pdn_circuit.specs.Blocks.{Block, Making, gives, one, ◌>>=◌, each}
use Rattle.pdn_circuit.specs.Plain.{Satisfies, Yields}
use Rattle.pdn_circuit.proofs.ValueLaws.{words_stand}

-- ---- two lists of gates
pub Satisfies-append : (inputs : InputWords) (words : List ℕ) (n : ℕ) (xs ys : List Gate) → Satisfies inputs words n (xs ++ ys)
    → Satisfies inputs words n xs × Satisfies inputs words (n + length xs) ys
Satisfies-append inputs words n [] ys s = (tt, subst (λ (k : ℕ). Satisfies inputs words k ys) (omega arith) s)
Satisfies-append inputs words n (x ∷ xs) ys s =
    let rest = Satisfies-append inputs words (n + 1) xs ys s.1 in
    ((s.0, rest.0), subst (λ (k : ℕ). Satisfies inputs words k ys) (omega arith) rest.1)

-- ---- the values of a circuit's gates satisfy all of them
value_stands : (inputs : InputWords) (whole words : List ℕ) (g : Gate) → ((k : ℕ) → k < length words → get_or whole k 0 ≡ get_or words k 0) → NamesBelow (length words) g → gate_value inputs words g ≡ gate_value inputs whole g
value_stands inputs whole words (Input site index) h b = refl
value_stands inputs whole words (Given index) h b = refl
value_stands inputs whole words (Const word) h b = refl
value_stands inputs whole words (Xor a b) h n = rw (h a n.0, h b n.1) refl
value_stands inputs whole words (And a b) h n = rw (h a n.0, h b n.1) refl
value_stands inputs whole words (Spread a lane) h n = rw (h a n) refl
value_stands inputs whole words (Move a from count to) h n = rw (h a n) refl

satisfied_along : (inputs : InputWords) (gates : List Gate) (words whole : List ℕ) → whole ≡ fold (next_values inputs) words gates
    → ((k : ℕ) (other : Gate) → k < length gates → NamesBelow (length words + k) (slice_index_or gates k other))
    → Satisfies inputs whole (length words) gates
satisfied_along inputs [] words whole e h = tt
satisfied_along inputs (g ∷ gs) words whole e h =
    let new : List ℕ = gate_value inputs words g ∷ [] in
    let here : NamesBelow (length words) g = subst (λ (n : ℕ). NamesBelow n g) (omega arith) (h 0 g (omega arith)) in
    let stand : (k : ℕ) → k < length words → get_or whole k 0 ≡ get_or words k 0 = λ k l. ap (λ (ws : List ℕ). get_or ws k 0) e ∙ words_stand inputs (g ∷ gs) words k l in
    let own : get_or whole (length words) 0 ≡ gate_value inputs words g
    = ap (λ (ws : List ℕ). get_or ws (length words) 0) e ∙ words_stand inputs gs (words ++ new) (length words) (omega (arith, length-append words new)) ∙ get_or_at words (gate_value inputs words g) [] 0 (length words) refl in
    let rest = satisfied_along inputs gs (words ++ new) whole e (λ k other l.
    subst (λ (n : ℕ). NamesBelow n (slice_index_or gs k other)) (omega (arith, length-append words new)) (h (suc k) other (omega arith))) in
    (own ∙ value_stands inputs whole words g stand here, subst (λ (k : ℕ). Satisfies inputs whole k gs) (omega (arith, length-append words new)) rest)

pub values_satisfy : (inputs : InputWords) (gates : List Gate) → InOrder gates → Satisfies inputs (values inputs gates) 0 gates
values_satisfy inputs gates o = satisfied_along inputs gates [] (values inputs gates) refl (λ k other l. subst (λ (n : ℕ). NamesBelow n (slice_index_or gates k other)) (omega arith) (o.at k other l))

-- gates that stand somewhere in a circuit
pub values_satisfy_part : (inputs : InputWords) (before gates after : List Gate) → InOrder (before ++ (gates ++ after)) → Satisfies inputs (values inputs (before ++ (gates ++ after))) (length before) gates
values_satisfy_part inputs before gates after o =
    let whole = values_satisfy inputs (before ++ (gates ++ after)) o in
    let rest = (Satisfies-append inputs (values inputs (before ++ (gates ++ after))) 0 before (gates ++ after) whole).1 in
    (Satisfies-append inputs (values inputs (before ++ (gates ++ after))) (length before) gates after (subst (λ (k : ℕ). Satisfies inputs (values inputs (before ++ (gates ++ after))) k (gates ++ after)) (omega arith) rest)).0

-- ---- what makings yield
-- what the first of two yields, and the other over it
pub record Twice {A B : Type 0} (inputs : InputWords) (words : List ℕ) (before : Making A) (after : A → Making B) (z : B) : Type 0 where
  pub x : A
  pub first : Yields inputs words before x
  pub rest : Yields inputs words (after x) z

-- the same for each of a list: as many, and each at its place
pub record EachYields {X A : Type 0} (inputs : InputWords) (words : List ℕ) (f : X → Making A) (xs : List X) (zs : List A) : Type 0 where
  pub count : length zs ≡ length xs
  pub at : (k : ℕ) (d : X) (e : A) → k < length xs → Yields inputs words (f (get_or xs k d)) (get_or zs k e)

module _ {inputs : InputWords} {words : List ℕ} where
  pub yields-one : (gate : Gate) {x : ℕ} → Yields inputs words (one gate) x → slice_index words x ≡ gate_value inputs words gate
  unfolding one
  yields-one gate y = let s = y.satisfied in ap (slice_index words) y.gives ∙ s.0

  pub yields-gives : {A : Type 0} (x : A) {z : A} → Yields inputs words (gives x) z → z ≡ x
  unfolding gives
  yields-gives x y = y.gives

  pub yields-then : {A B : Type 0} (before : Making A) (after : A → Making B) {z : B} → Yields inputs words (before >>= after) z → Twice inputs words before after z
  unfolding ◌>>=◌
  yields-then {A} {B} before after {z} y =
      let n : ℕ = y.at in
      let a : Block A = before n in
      let parts = Satisfies-append inputs words n a.gates (after a.result (n + length a.gates)).gates y.satisfied in
      record {
        x = a.result;
        first = record { at = n; satisfied = parts.0; gives = refl };
        rest = record { at = n + length a.gates; satisfied = parts.1; gives = y.gives };
      }

  pub yields-each : {X A : Type 0} (f : X → Making A) (xs : List X) (zs : List A) → Yields inputs words (each f xs) zs → EachYields inputs words f xs zs
  yields-each f [] zs y = record { count = ap length (yields-gives _ y); at = λ k d e h. absurd (omega arith) }
  yields-each {X} {A} f (x ∷ xs) zs y =
      let a = yields-then _ _ y in
      let b = yields-then _ _ a.rest in
      let is : zs ≡ a.x ∷ b.x = yields-gives _ b.rest in
      let more = yields-each f xs b.x b.first in
      record {
        count = ap length is ∙ ap suc more.count;
        at = λ k d e h. subst (λ (ys : List A). Yields inputs words (f (get_or (x ∷ xs) k d)) (get_or ys k e)) (sym is) (at_place _ _ k d e h a.first more.at);
      }
    where
      at_place : (y : A) (ys : List A) (k : ℕ) (d : X) (e : A) → k < length (x ∷ xs) → Yields inputs words (f x) y → ((i : ℕ) (d : X) (e : A) → i < length xs → Yields inputs words (f (get_or xs i d)) (get_or ys i e))
          → Yields inputs words (f (get_or (x ∷ xs) k d)) (get_or (y ∷ ys) k e)
      at_place y ys zero d e h here all = here
      at_place y ys (suc k) d e h here all = all k d e (omega arith)
