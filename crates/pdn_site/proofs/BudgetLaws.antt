-- The circuit of a unit, within what earlier units left of the limits.
use Rattle.std.specs.Prelude.{MatchResult}
use Rattle.std.proofs.Common.{◌≡◌, ℕ, suc, ◌-◌, ◌^◌, ◌<◌, ◌≤◌, Bool, ltb, eqb, List, [], ◌∷◌, ◌++◌, length, Some, Result, Ok, Err, sym, ap₂, ◌∙◌, subst, arith}
use Rattle.std.specs.List.{All, flat_map}
use Rattle.std.specs.Result.{IsErrAnd}
use Rattle.std.proofs.lemmas.Bool.{le-ltb, ne_eqb, cond-false}
use Rattle.std.proofs.lemmas.List.Elements.{All-nil, All-append}
use Rattle.pdn_circuit.specs.declared.gate.Gate.{Gate}
use Rattle.pdn_circuit.specs.declared.gate.Gate.TheVariants.{Const}
use Rattle.pdn_circuit.specs.declared.tally.BuildErr.{BuildErr}
use Rattle.pdn_circuit.specs.declared.tally.BuildErr.TheVariants as build
use Rattle.pdn_circuit.specs.Gates.{Net}
use Rattle.pdn_circuit.specs.Blocks.{Making, ◌>>=◌}
use Rattle.pdn_circuit.specs.Building.{Made, Makes, Stops, StartRefused, constants, nothing_made, first_over, refusal}
use Rattle.pdn_circuit.proofs.Making.{along_begin, along_stops, extends_self}
use Rattle.pdn_obl_rows.specs.Lists.{PaddedList}
use Rattle.pdn_obl_rows.specs.Operators.{IsThere}
use Rattle.pdn_site.specs.declared.budget.Left.{Left}
use Rattle.pdn_site.specs.Laying.{Taken, Laying, nothing}
use Rattle.pdn_site.specs.Circuits.{list_gates, net_of}
use Rattle.pdn_site.specs.Built.{taken_by}
use Rattle.pdn_site.specs.Budget.{Begins, IsOver, MakesNet}

-- ---- outputs
planes_there : (n : ℕ) (planes : List (List ℕ)) → All (λ (plane : List ℕ). All (λ g. g < n) plane) planes → All (λ g. g < n) (flat_map (λ plane. plane) planes)
planes_there n [] h = All-nil (λ g. g < n)
planes_there n (p ∷ ps) h = All-append (λ g. g < n) p (flat_map (λ plane. plane) ps) (h 0 [] (omega arith)) (planes_there n ps (λ k d l. h (suc k) d (omega (arith, l))))

-- the outputs of a list are gates, where the list is there
pub outputs_there : (made : Made) (list : PaddedList) (outputs : List ℕ) → outputs ≡ list_gates list → IsThere made list → All (λ g. g < length made.gates) outputs
outputs_there made list outputs e is = subst (λ (os : List ℕ). All (λ g. g < length made.gates) os) (sym e)
    (All-append (λ g. g < length made.gates) list.valid (flat_map (λ plane. plane) list.planes) is.valid (planes_there (length made.gates) list.planes is.planes))

-- a refusal that is passed on
pub net_exit : (left : Left) (net : Net) (result : Result Net BuildErr) (e : BuildErr) → IsErrAnd result (λ err. err ≡ e) → IsOver left net.gates e → MakesNet left net result
net_exit left net (Ok circuit) e is over = absurd is
net_exit left net (Err err) e is over = subst (λ (x : BuildErr). IsOver left net.gates x) (sym is) over

-- ---- the constants, and what comes after them
constant_fits : (ands gates word : ℕ) (gs : List Gate) → 0 < gates → first_over ands gates (Const word ∷ gs) ≡ first_over (ands - 0) (gates - 1) gs
constant_fits ands gates word gs h =
    cond-false (ltb ands 0) _ _ (le-ltb ands 0 (omega arith))
    ∙ cond-false (eqb gates 0) _ _ (ne_eqb gates 0 (λ e. omega (arith, e, h)))

constants_fit : (left : Left) (gs : List Gate) → 2 ≤ left.gates → first_over left.ands left.gates (constants ++ gs) ≡ first_over (left.ands - 0) (left.gates - 2) gs
constants_fit left gs h =
    let e : left.ands - 0 - 0 ≡ left.ands - 0 = omega arith in
    let f : left.gates - 1 - 1 ≡ left.gates - 2 = omega arith in
    constant_fits left.ands left.gates 0 (Const (2 ^ 64 - 1) ∷ gs) (omega (arith, h)) ∙ constant_fits (left.ands - 0) (left.gates - 1) (2 ^ 64 - 1) gs (omega (arith, h)) ∙ ap₂ (λ m n. first_over m n gs) e f

then_more : List Gate → Making (Unit {0})
then_more gs = λ n. record { gates = gs; result = tt }

constants_over : (ands gates limit : ℕ) (gs : List Gate) → refusal (nothing_made ands gates) constants ≡ Some limit → refusal (nothing_made ands gates) (constants ++ gs) ≡ Some limit
unfolding then_more ◌>>=◌
constants_over ands gates limit gs h =
    let none : Made = nothing_made ands gates in
    let stops : Stops none none ((then_more constants >>= λ _. then_more gs) 0) (build.Full limit) =
    along_stops none none none (then_more constants >>= λ _. then_more gs) (then_more constants) (λ _. then_more gs) (build.Full limit) (along_begin none (then_more constants >>= λ _. then_more gs)) (extends_self none, h) in
    stops.1

module _ (left : Left) (released : Bool) (laying : Laying PaddedList) where
  abbrev net : Net
  net = net_of released laying

  -- there was no room for the constants
  pub start_over : (e : BuildErr) → StartRefused left.ands left.gates e → IsOver left net.gates e
  start_over (build.Full limit) h =
      let e : left.ands ≡ left.ands - 0 = omega arith in
      let f : left.gates ≡ left.gates - 0 = omega arith in
      ap₂ (λ m n. first_over m n net.gates) e f ∙ constants_over left.ands left.gates limit (laying nothing 2).gates h
  start_over build.Memory h = tt

  module _ (b : Made) (begins : Begins left b) where
    -- a gate of the list was too many
    pub list_over : (new : Made) (e : BuildErr) → Stops b new (laying (taken_by b.gates 0) (length b.gates)) e → IsOver left net.gates e
    list_over new (build.Full limit) s =
        constants_fit left (laying nothing 2).gates begins.room ∙ subst (λ (m : Made). refusal m (laying (taken_by m.gates 0) (length m.gates)).gates ≡ Some limit) begins.starts s.1
    list_over new build.Memory s = tt

    -- the circuit of the list that was made
    pub net_made : (new : Made) (list : PaddedList) (after : Taken) → Makes b new (laying (taken_by b.gates 0) (length b.gates)) (list, after)
        → (result : Result Net BuildErr) → MatchResult result (λ (circuit : Net). circuit ≡ record { gates = new.gates; outputs = list_gates list; released = released }) (λ e. e ≡ build.Memory) → MakesNet left net result
    net_made new list after made (Ok circuit) is =
        let m : Makes (record { gates = constants; most_ands = left.ands; most_gates = left.gates }) new (laying nothing 2) (list, after) = subst (λ (m : Made). Makes m new (laying (taken_by m.gates 0) (length m.gates)) (list, after)) begins.starts made in
        record {
          is = is ∙ ap₂ (λ (gs : List Gate) (x : PaddedList × Taken). record { gates = gs; outputs = list_gates x.0; released = released }) m.gates m.gives;
          fits = constants_fit left (laying nothing 2).gates begins.room ∙ m.fits;
        }
    net_made new list after made (Err e) is = subst (λ (x : BuildErr). IsOver left net.gates x) (sym is) tt
