-- A gate is added to a builder's.
use Rattle.std.proofs.Common.{◌≡◌, ℕ, zero, suc, ◌+◌, ◌-◌, ◌^◌, ◌<◌, ◌≤◌, List, [], ◌∷◌, ◌++◌, length, get_or, take, Bool, true, false, cond, ltb, eqb, Option, Some, None, Vec, Global, refl, sym, ap, ◌∙◌, subst, ⊎_elim, arith, length-append}
use Rattle.std.specs.List.{count_by}
use Rattle.std.specs.Prelude.{slice_index_or}
use Rattle.std.proofs.lemmas.List.{get_or_append_left, get_or_at, take-append-le, take_at, take-take, get_or-take, length-take}
use Rattle.std.proofs.lemmas.Bool.{cases_lt, cond-true, cond-false, lt-ltb, le-ltb, eq-eqb, ne_eqb}
use Rattle.pdn_base.specs.declared.site.Site.{Site}
use Rattle.pdn_base.specs.declared.site.Site.TheVariants.{A, B}
use Rattle.pdn_circuit.specs.declared.gate.Gate.{Gate}
use Rattle.pdn_circuit.specs.declared.tally.Tally.{Tally}
use Rattle.pdn_circuit.specs.declared.tally.Mark.{Mark}
use Rattle.pdn_circuit.specs.Gates.{NamesBelow, LanesFit, TakesNext, InOrder, AllLanesFit, AllTakeNext, AreGates, is_input_of, is_given, input_count, given_count, ands, operands_of}
use Rattle.pdn_circuit.specs.declared.gate.Gate.TheVariants.{Input, Given, Const, Xor, And, Spread, Move}
use Rattle.pdn_circuit.specs.declared.builder.Builder.TheInside.{Inside}
use Rattle.pdn_circuit.specs.declared.tally.BuildErr.TheVariants.{Full}
use Rattle.pdn_circuit.specs.Blocks.{one}
use Rattle.pdn_circuit.specs.Builder.{made_of, IsBuilder}
use Rattle.pdn_circuit.specs.Building.{Made, IsMade, Makes, Refuses, SameBounds, refusal, first_over, constants, IsNext, IsMark, IsTally, tally_sum, and_count}
use Rattle.pdn_circuit.proofs.ValueLaws.{ands_more}
use Rattle.std.proofs.lemmas.List.Sums.{sum_by-append}

-- what holds at each place of a list, and at one more
at_each : (P : ℕ → Gate → Type 0) (gates : List Gate) (gate : Gate) → ((k : ℕ) (other : Gate) → k < length gates → P k (slice_index_or gates k other)) → P (length gates) gate
    → (k : ℕ) (other : Gate) → k < length (gates ++ gate ∷ []) → P k (slice_index_or (gates ++ gate ∷ []) k other)
at_each P gates gate before here k other h = ⊎_elim
    (λ l. subst (λ (g : Gate). P k g) (sym (get_or_append_left gates (gate ∷ []) other k l)) (before k other l))
    (λ l. let e : length gates ≡ k = omega (arith, length-append gates (gate ∷ [])) in
    subst (λ (n : ℕ). P n (slice_index_or (gates ++ gate ∷ []) n other)) e (subst (λ (g : Gate). P (length gates) g) (sym (get_or_at gates gate [] other (length gates) refl)) here))
    (cases_lt k (length gates))

pub gates_more : (gates : List Gate) (gate : Gate) → AreGates gates → IsNext gates gate → AreGates (gates ++ gate ∷ [])
gates_more gates gate are next =
    let order = are.order in
    let lanes = are.lanes in
    let numbers = are.numbers in
    record {
      order = record { at = at_each NamesBelow gates gate order.at next.names };
      lanes = record { at = at_each (λ k. LanesFit) gates gate lanes.at next.lanes };
      numbers = record {
        at = at_each (λ k. TakesNext (take k (gates ++ gate ∷ []))) gates gate
            (λ k other h. subst (λ (gs : List Gate). TakesNext gs (slice_index_or gates k other)) (sym (take-append-le k gates (gate ∷ []) (omega arith))) (numbers.at k other h))
            (subst (λ (gs : List Gate). TakesNext gs gate) (sym (take_at gates (gate ∷ []) (length gates) refl)) next.number);
      };
    }

count_more : (p : Gate → Bool) (gates : List Gate) (gate : Gate) (x y : ℕ) → x ≡ count_by p gates → y ≡ count_by p (gate ∷ []) → x + y ≡ count_by p (gates ++ gate ∷ [])
count_more p gates gate x y e f = omega (arith, e, f, sum_by-append (λ (g : Gate). cond (p g) 1 0) gates (gate ∷ []))

pub tally_more : (gates : List Gate) (gate : Gate) (x y : Tally) → IsTally x gates → IsTally y (gate ∷ []) → IsTally (tally_sum x y) (gates ++ gate ∷ [])
tally_more gates gate x y s t = record {
  ands = omega (arith, s.ands, t.ands, ap length (ands_more gates gate), length-append (ands gates) (operands_of gate), length-append (operands_of gate) []);
  a = count_more (is_input_of A) gates gate x.a y.a s.a t.a;
  b = count_more (is_input_of B) gates gate x.b y.b s.b t.b;
  given = count_more is_given gates gate x.given y.given s.given t.given;
}

-- ---- does it fit
at_most_one : (gate : Gate) → length (operands_of gate) ≤ 1
at_most_one (Input site index) = omega arith
at_most_one (Given index) = omega arith
at_most_one (Const word) = omega arith
at_most_one (Xor a b) = omega arith
at_most_one (And a b) = omega arith
at_most_one (Spread a lane) = omega arith
at_most_one (Move a from count to) = omega arith

and_count-le : (gates : List Gate) → and_count gates ≤ length gates
and_count-le [] = omega arith
and_count-le (g ∷ gs) = omega (arith, and_count-le gs, length-append (operands_of g) (ands gs), at_most_one g)

pub two_there : (gates : List Gate) → take 2 gates ≡ constants → 2 ≤ length gates
two_there gates h = omega (arith, length-take 2 gates, ap length h)

tally_room : (gates : List Gate) (gate : Gate) (x y : Tally) → IsTally x gates → IsTally y (gate ∷ []) → length gates ≤ 16777216 → (x.ands + y.ands < 2 ^ 32)
tally_room gates gate x y s t h = omega (arith, s.ands, t.ands, and_count-le gates, and_count-le (gate ∷ []))

over_ands : (made : Made) (gate : Gate) (added : ℕ) → and_count made.gates ≤ made.most_ands → added ≡ and_count (gate ∷ []) → made.most_ands < and_count made.gates + added → refusal made (gate ∷ []) ≡ Some 2
over_ands made gate added few e h =
    cond-true (ltb (made.most_ands - and_count made.gates) (length (operands_of gate))) _ _
    (lt-ltb (made.most_ands - and_count made.gates) (length (operands_of gate)) (omega (arith, e, length-append (operands_of gate) [])))

over_gates : (made : Made) (gate : Gate) (added : ℕ) → added ≡ and_count (gate ∷ []) → and_count made.gates + added ≤ made.most_ands → made.most_gates ≤ length made.gates → refusal made (gate ∷ []) ≡ Some 3
over_gates made gate added e h full =
    cond-false (ltb (made.most_ands - and_count made.gates) (length (operands_of gate))) _ _
    (le-ltb (made.most_ands - and_count made.gates) (length (operands_of gate)) (omega (arith, e, length-append (operands_of gate) [])))
    ∙ cond-true (eqb (made.most_gates - length made.gates) 0) _ _ (eq-eqb (made.most_gates - length made.gates) 0 (omega arith))

not_over : (made : Made) (gate : Gate) (added : ℕ) → added ≡ and_count (gate ∷ []) → and_count made.gates + added ≤ made.most_ands → length made.gates < made.most_gates → refusal made (gate ∷ []) ≡ None
not_over made gate added e h room =
    cond-false (ltb (made.most_ands - and_count made.gates) (length (operands_of gate))) _ _
    (le-ltb (made.most_ands - and_count made.gates) (length (operands_of gate)) (omega (arith, e, length-append (operands_of gate) [])))
    ∙ cond-false (eqb (made.most_gates - length made.gates) 0) _ _ (ne_eqb (made.most_gates - length made.gates) 0 (λ z. omega arith))

-- ---- one gate is pushed, by the builder's fields
pub push_room : (b : Inside) (gate : Gate) (added : Tally) → IsBuilder b → IsTally added (gate ∷ []) → b.tally.ands + added.ands < 2 ^ 32
push_room b gate added is t = let made = is.made in tally_room b.gates.items gate b.tally added is.tally t (omega (arith, made.few_gates, made.most))

pub push_over_ands : (b : Inside) (old : Made) (gate : Gate) (added : Tally) → made_of b ≡ old → IsBuilder b → IsTally added (gate ∷ []) → b.most_ands < b.tally.ands + added.ands
    → Refuses {A = ℕ} old old (one gate (length old.gates)) (Full 2)
unfolding one
push_over_ands b old gate added e is t h =
    let tally = is.tally in
    let made = is.made in
    (refl, subst (λ (m : Made). refusal m (gate ∷ []) ≡ Some 2) e (over_ands (made_of b) gate added.ands made.few_ands t.ands (omega (arith, tally.ands))))

pub push_over_gates : (b : Inside) (old : Made) (gate : Gate) (added : Tally) (number : ℕ) → made_of b ≡ old → IsBuilder b → IsTally added (gate ∷ []) → b.tally.ands + added.ands ≤ b.most_ands
    → number ≡ length b.gates.items → number ≡ b.most_gates → Refuses {A = ℕ} old old (one gate (length old.gates)) (Full 3)
unfolding one
push_over_gates b old gate added number e is t h n m =
    let tally = is.tally in
    (refl, subst (λ (m : Made). refusal m (gate ∷ []) ≡ Some 3) e (over_gates (made_of b) gate added.ands t.ands (omega (arith, tally.ands)) (omega arith)))

pub push_makes : (b : Inside) (old : Made) (gate : Gate) (added : Tally) (number : ℕ) (gates : List Gate) → made_of b ≡ old → IsBuilder b → IsTally added (gate ∷ []) → b.tally.ands + added.ands ≤ b.most_ands
    → number ≡ length b.gates.items → (number ≡ b.most_gates → ⊥) → gates ≡ b.gates.items ++ gate ∷ []
    → Makes {A = ℕ} old (record { gates = gates; most_ands = b.most_ands; most_gates = b.most_gates }) (one gate (length old.gates)) number
unfolding one
push_makes b old gate added number gates e is t h n m new =
    let tally = is.tally in
    let made = is.made in
    subst (λ (o : Made). Makes {A = ℕ} o (record { gates = gates; most_ands = b.most_ands; most_gates = b.most_gates }) (record { gates = gate ∷ []; result = length o.gates }) number) e (record {
      gates = new;
      gives = n;
      fits = not_over (made_of b) gate added.ands t.ands (omega (arith, tally.ands)) (omega (arith, made.few_gates));
      bounds = record { ands = refl; gates = refl };
    })

pub push_keeps : (b : Inside) (old : Made) (gate : Gate) (added sum : Tally) (number : ℕ) (gates : Vec Gate Global) → made_of b ≡ old → IsBuilder b → IsTally added (gate ∷ []) → b.tally.ands + added.ands ≤ b.most_ands
    → number ≡ length b.gates.items → (number ≡ b.most_gates → ⊥) → IsNext old.gates gate → gates.items ≡ b.gates.items ++ gate ∷ [] → sum ≡ tally_sum b.tally added
    → IsBuilder (record { gates = gates; tally = sum; most_ands = b.most_ands; most_gates = b.most_gates })
push_keeps b old gate added sum number gates e is t h n m next new s =
    let tally = is.tally in
    let made = is.made in
    let here : IsNext b.gates.items gate = subst (λ (o : Made). IsNext o.gates gate) (sym e) next in
    let all : IsTally sum gates.items = subst (λ (x : Tally). IsTally x gates.items) (sym s) (subst (λ (gs : List Gate). IsTally (tally_sum b.tally added) gs) (sym new) (tally_more b.gates.items gate b.tally added is.tally t)) in
    let counted : and_count gates.items ≡ b.tally.ands + added.ands = sym all.ands ∙ ap (λ (x : Tally). x.ands) s in
    record {
      made = record {
        gates = subst (λ (gs : List Gate). AreGates gs) (sym new) (gates_more b.gates.items gate made.gates here);
        begins = ap (λ (gs : List Gate). take 2 gs) new ∙ take-append-le 2 b.gates.items (gate ∷ []) (two_there b.gates.items made.begins) ∙ made.begins;
        few_ands = omega (arith, counted);
        few_gates = omega (arith, made.few_gates, ap length new, length-append b.gates.items (gate ∷ []));
        most = made.most;
      };
      tally = all;
    }

-- ---- fewer gates
kept_each : (P : ℕ → Gate → Type 0) (gates : List Gate) (n : ℕ) → ((k : ℕ) (other : Gate) → k < length gates → P k (slice_index_or gates k other))
    → (k : ℕ) (other : Gate) → k < length (take n gates) → P k (slice_index_or (take n gates) k other)
kept_each P gates n all k other h =
    let within : (k < n) × (k < length gates) = (omega (arith, length-take n gates), omega (arith, length-take n gates)) in
    subst (λ (g : Gate). P k g) (sym (get_or-take n gates k other within.0)) (all k other within.1)

pub gates_kept : (gates : List Gate) (n : ℕ) → AreGates gates → AreGates (take n gates)
gates_kept gates n are =
    let order = are.order in
    let lanes = are.lanes in
    let numbers = are.numbers in
    record {
      order = record { at = kept_each NamesBelow gates n order.at };
      lanes = record { at = kept_each (λ k. LanesFit) gates n lanes.at };
      numbers = record {
        at = λ k other h. subst (λ (gs : List Gate). TakesNext gs (slice_index_or (take n gates) k other)) (sym (take-take k n gates (omega (arith, length-take n gates))))
            (kept_each (λ j. TakesNext (take j gates)) gates n numbers.at k other h);
      };
    }

fewer_ands : (gates : List Gate) (n : ℕ) → and_count (take n gates) ≤ and_count gates
fewer_ands gates zero = omega arith
fewer_ands [] (suc n) = omega arith
fewer_ands (g ∷ gs) (suc n) = omega (arith, fewer_ands gs n, length-append (operands_of g) (ands (take n gs)), length-append (operands_of g) (ands gs))

pub cut_keeps : (b : Inside) (old : Made) (mark : Mark) (gates : Vec Gate Global) → made_of b ≡ old → IsBuilder b → IsMark mark (take mark.gates old.gates) → 2 ≤ mark.gates
    → gates.items ≡ take mark.gates b.gates.items → IsBuilder (record { gates = gates; tally = mark.tally; most_ands = b.most_ands; most_gates = b.most_gates })
cut_keeps b old mark gates e is at two new =
    let made = is.made in
    let same : take mark.gates old.gates ≡ gates.items = ap (λ (m : Made). take mark.gates m.gates) (sym e) ∙ sym new in
    record {
      made = record {
        gates = subst (λ (gs : List Gate). AreGates gs) (sym new) (gates_kept b.gates.items mark.gates made.gates);
        begins = ap (λ (gs : List Gate). take 2 gs) new ∙ take-take 2 mark.gates b.gates.items two ∙ made.begins;
        few_ands = omega (arith, ap and_count new, fewer_ands b.gates.items mark.gates, made.few_ands);
        few_gates = omega (arith, ap length new, length-take mark.gates b.gates.items, made.few_gates);
        most = made.most;
      };
      tally = subst (λ (gs : List Gate). IsTally mark.tally gs) same at.tally;
    }

-- a list has one more element once one is pushed
pub len_there : (gates more : List Gate) (gate : Gate) → more ≡ gates ++ gate ∷ [] → length gates < length more
len_there gates more gate e = omega (arith, ap length e, length-append gates (gate ∷ []))
