-- How gates are made one after the other.
use Rattle.std.proofs.Common.{◌≡◌, ℕ, ◌+◌, ◌-◌, ◌<◌, ◌≤◌, List, [], ◌∷◌, ◌++◌, length, take, Bool, true, false, cond, ltb, eqb, Option, Some, None, Result, Ok, Err, Vec, Global, refl, sym, ap, ◌∙◌, subst, arith, length-append, append_assoc, append-nil}
use Rattle.std.proofs.lemmas.Bool.{cond-false}
use Rattle.std.proofs.lemmas.List.{take_at, take_all, take-append-le, take-take, length-take-le, length-take}
use Rattle.pdn_circuit.specs.declared.gate.Gate.{Gate}
use Rattle.pdn_circuit.specs.declared.tally.BuildErr.{BuildErr}
use Rattle.pdn_circuit.specs.declared.tally.BuildErr.TheVariants.{Full, Memory}
use Rattle.pdn_circuit.specs.Gates.{ands, operands_of}
use Rattle.pdn_circuit.specs.Blocks.{Block, Making, gives, one, ◌>>=◌, each}
use Rattle.std.specs.Result.{IsErrAnd}
use Rattle.pdn_circuit.specs.Building.{Made, Makes, Refuses, Stops, Builds, Tries, TriesList, Extends, SameBounds, IsCut, Along, refusal, first_over, and_count}

-- ---- the laws of making
block : {A : Type 0} → List Gate → A → Block A
block gates x = record { gates = gates; result = x }

pub gives-then : {A B : Type 0} (x : A) (rest : A → Making B) (n : ℕ) → (gives x >>= rest) n ≡ rest x n
unfolding gives ◌>>=◌
gives-then x rest n = ap (λ m. rest x m) (let e : n + 0 ≡ n = omega arith in e)

pub then-then : {A B C : Type 0} (first : Making A) (second : A → Making B) (third : B → Making C) (n : ℕ) → ((first >>= second) >>= third) n ≡ (first >>= λ x. second x >>= third) n
unfolding ◌>>=◌
then-then {A} {B} {C} first second third n =
    let a = first n in
    let b = second a.result (n + length a.gates) in
    let at : n + length (a.gates ++ b.gates) ≡ n + length a.gates + length b.gates = omega (arith, length-append a.gates b.gates) in
    subst (λ (m : ℕ). record { gates = (a.gates ++ b.gates) ++ (third b.result m).gates; result = (third b.result m).result } ≡ (first >>= λ x. second x >>= third) n) (sym at)
    (ap (λ (gs : List Gate). record { gates = gs; result = (third b.result (n + length a.gates + length b.gates)).result }) (append_assoc a.gates b.gates (third b.result (n + length a.gates + length b.gates)).gates))

pub then-gives : {A : Type 0} (first : Making A) (n : ℕ) → (first >>= gives) n ≡ first n
unfolding gives ◌>>=◌
then-gives {A} first n = let b : Block A = first n in ap (λ (gs : List Gate). record { gates = gs; result = b.result }) (append-nil b.gates)

pub then_same : {A B : Type 0} (first : Making A) (f g : A → Making B) (n : ℕ) → ((x : A) (m : ℕ) → f x m ≡ g x m) → (first >>= f) n ≡ (first >>= g) n
unfolding ◌>>=◌
then_same {A} {B} first f g n same = let a : Block A = first n in ap (λ (b : Block B). record { gates = a.gates ++ b.gates; result = b.result }) (same a.result (n + length a.gates))

-- ---- which gate is the first too many
pub and_count-append : (xs ys : List Gate) → and_count (xs ++ ys) ≡ and_count xs + and_count ys
and_count-append [] ys = omega arith
and_count-append (x ∷ xs) ys = omega (arith, and_count-append xs ys, length-append (operands_of x) (ands xs), length-append (operands_of x) (ands (xs ++ ys)))

passes : (over full : Bool) (rest : Option ℕ) → cond over (Some 2) (cond full (Some 3) rest) ≡ None → (over ≡ false) × (full ≡ false) × (rest ≡ None)
passes true full rest h = cc
passes false true rest h = cc
passes false false rest h = (refl, refl, h)

-- gates that fit leave the limit to those after them
first_over-fits : (and_room room : ℕ) (xs ys : List Gate) → first_over and_room room xs ≡ None → first_over and_room room (xs ++ ys) ≡ first_over (and_room - and_count xs) (room - length xs) ys
first_over-fits and_room room [] ys h =
    let e : and_room ≡ and_room - 0 = omega arith in
    let f : room ≡ room - 0 = omega arith in
    ap (λ n. first_over n room ys) e ∙ ap (λ n. first_over (and_room - 0) n ys) f
first_over-fits and_room room (x ∷ xs) ys h =
    let p = passes (ltb and_room (length (operands_of x))) (eqb room 0) (first_over (and_room - length (operands_of x)) (room - 1) xs) h in
    let e : and_room - length (operands_of x) - and_count xs ≡ and_room - and_count (x ∷ xs) = omega (arith, length-append (operands_of x) (ands xs)) in
    let f : room - 1 - length xs ≡ room - length (x ∷ xs) = omega arith in
    cond-false (ltb and_room (length (operands_of x))) _ _ p.0 ∙ cond-false (eqb room 0) _ _ p.1
    ∙ first_over-fits (and_room - length (operands_of x)) (room - 1) xs ys p.2
    ∙ ap (λ n. first_over n (room - 1 - length xs) ys) e ∙ ap (λ n. first_over (and_room - and_count (x ∷ xs)) n ys) f

decides : (over full : Bool) (rest more : Option ℕ) (limit : ℕ) → cond over (Some 2) (cond full (Some 3) rest) ≡ Some limit → (rest ≡ Some limit → more ≡ Some limit) → cond over (Some 2) (cond full (Some 3) more) ≡ Some limit
decides true full rest more limit h next = h
decides false true rest more limit h next = h
decides false false rest more limit h next = next h

-- and those that don't decide it
first_over-full : (and_room room limit : ℕ) (xs ys : List Gate) → first_over and_room room xs ≡ Some limit → first_over and_room room (xs ++ ys) ≡ Some limit
first_over-full and_room room limit [] ys h = cc
first_over-full and_room room limit (x ∷ xs) ys h =
    decides (ltb and_room (length (operands_of x))) (eqb room 0) (first_over (and_room - length (operands_of x)) (room - 1) xs) (first_over (and_room - length (operands_of x)) (room - 1) (xs ++ ys)) limit h
    (first_over-full (and_room - length (operands_of x)) (room - 1) limit xs ys)

fits_next : (old now : Made) (xs ys : List Gate) → SameBounds old now → now.gates ≡ old.gates ++ xs → refusal old xs ≡ None → refusal old (xs ++ ys) ≡ refusal now ys
fits_next old now xs ys same new fits =
    first_over-fits (old.most_ands - and_count old.gates) (old.most_gates - length old.gates) xs ys fits
    ∙ ap (λ n. first_over n (old.most_gates - length old.gates - length xs) ys)
    (let e : old.most_ands - and_count old.gates - and_count xs ≡ now.most_ands - and_count now.gates = omega (arith, same.ands, ap and_count new, and_count-append old.gates xs) in e)
    ∙ ap (λ n. first_over (now.most_ands - and_count now.gates) n ys)
    (let e : old.most_gates - length old.gates - length xs ≡ now.most_gates - length now.gates = omega (arith, same.gates, ap length new, length-append old.gates xs) in e)

-- ---- what stands
pub extends_self : (made : Made) → Extends made made
extends_self made = record { gates = take_all (length made.gates) made.gates (omega arith); bounds = record { ands = refl; gates = refl } }

longer : (xs ys : List Gate) → take (length xs) ys ≡ xs → length xs ≤ length ys
longer xs ys h = omega (arith, ap length h, length-take (length xs) ys)

pub extends_longer : (old now : Made) → Extends old now → length old.gates ≤ length now.gates
extends_longer old now e = longer old.gates now.gates e.gates

pub extends_by : (old now : Made) (more : List Gate) → SameBounds old now → now.gates ≡ old.gates ++ more → Extends old now
extends_by old now more same new = record { gates = ap (λ (gs : List Gate). take (length old.gates) gs) new ∙ take_at old.gates more (length old.gates) refl; bounds = same }

pub extends_extends : (old mid now : Made) → Extends old mid → Extends mid now → Extends old now
extends_extends old mid now e f =
    let x = e.bounds in
    let y = f.bounds in
    record {
      gates = sym (take-take (length old.gates) (length mid.gates) now.gates (extends_longer old mid e)) ∙ ap (λ (gs : List Gate). take (length old.gates) gs) f.gates ∙ e.gates;
      bounds = record { ands = y.ands ∙ x.ands; gates = y.gates ∙ x.gates };
    }

-- ---- along a block
pub along_begin : {A : Type 0} (made : Made) (whole : Making A) → Along made whole made whole
along_begin made whole = record { gates = refl; result = refl; fits = refl; stands = extends_self made }

-- what is left may be written another way
pub along_as : {A : Type 0} (old now : Made) (whole rest other : Making A) → ((n : ℕ) → rest n ≡ other n) → Along old whole now rest → Along old whole now other
along_as {A} old now whole rest other same a = record {
  gates = a.gates ∙ ap (λ (b : Block A). now.gates ++ b.gates) (same (length now.gates));
  result = a.result ∙ ap (λ (b : Block A). b.result) (same (length now.gates));
  fits = a.fits ∙ ap (λ (b : Block A). refusal now b.gates) (same (length now.gates));
  stands = a.stands;
}

-- its first part was made
pub along_next : {A B : Type 0} (old now new : Made) (whole : Making A) (first : Making B) (rest : B → Making A) (x : B)
    → Along old whole now (first >>= rest) → Makes now new (first (length now.gates)) x → Along old whole new (rest x)
unfolding ◌>>=◌
along_next {A} {B} old now new whole first rest x a m =
    let b : Block B = first (length now.gates) in
    let at : length now.gates + length b.gates ≡ length new.gates = omega (arith, ap length m.gates, length-append now.gates b.gates) in
    let same : rest b.result (length now.gates + length b.gates) ≡ rest x (length new.gates) = ap (λ (y : B). rest y (length now.gates + length b.gates)) (sym m.gives) ∙ ap (rest x) at in
    record {
      gates = a.gates ∙ sym (append_assoc now.gates b.gates (rest b.result (length now.gates + length b.gates)).gates)
          ∙ ap (λ (gs : List Gate). gs ++ (rest b.result (length now.gates + length b.gates)).gates) (sym m.gates) ∙ ap (λ (c : Block A). new.gates ++ c.gates) same;
      result = a.result ∙ ap (λ (c : Block A). c.result) same;
      fits = a.fits ∙ fits_next now new b.gates (rest b.result (length now.gates + length b.gates)).gates m.bounds m.gates m.fits ∙ ap (λ (c : Block A). refusal new c.gates) same;
      stands = extends_extends old now new a.stands (extends_by now new b.gates m.bounds m.gates);
    }

-- its last part was made
pub along_last : {A : Type 0} (old now new : Made) (whole last : Making A) (x : A) → Along old whole now last → Makes now new (last (length now.gates)) x → Makes old new (whole (length old.gates)) x
along_last {A} old now new whole last x a m =
    let b : Block A = last (length now.gates) in
    let e = a.stands in
    let x = e.bounds in
    let y = m.bounds in
    record {
      gates = m.gates ∙ sym a.gates;
      gives = m.gives ∙ sym a.result;
      fits = a.fits ∙ m.fits;
      bounds = record { ands = y.ands ∙ x.ands; gates = y.gates ∙ x.gates };
    }

-- nothing is left
pub along_end : {A : Type 0} (old now : Made) (whole : Making A) (x : A) → Along old whole now (gives x) → Makes old now (whole (length old.gates)) x
unfolding gives
along_end old now whole x a =
    let e = a.stands in
    record {
      gates = sym (append-nil now.gates) ∙ sym a.gates;
      gives = sym a.result;
      fits = a.fits;
      bounds = e.bounds;
    }

-- ---- a block that stops
pub stops : {A : Type 0} (old now : Made) (block : Block A) (err : BuildErr) → Refuses old now block err → Stops old now block err
stops old now block (Full limit) r = (subst (λ (m : Made). Extends old m) (sym r.0) (extends_self old), r.1)
stops old now block Memory r = subst (λ (m : Made). Extends old m) (sym r) (extends_self old)

pub along_stops : {A B : Type 0} (old now new : Made) (whole : Making A) (first : Making B) (rest : B → Making A) (err : BuildErr)
    → Along old whole now (first >>= rest) → Stops now new (first (length now.gates)) err → Stops old new (whole (length old.gates)) err
unfolding ◌>>=◌
along_stops {A} {B} old now new whole first rest (Full limit) a s =
    let b : Block B = first (length now.gates) in (
      extends_extends old now new a.stands s.0,
      a.fits ∙ first_over-full (now.most_ands - and_count now.gates) (now.most_gates - length now.gates) limit b.gates (rest b.result (length now.gates + length b.gates)).gates s.1,
    )
along_stops old now new whole first rest Memory a s = extends_extends old now new a.stands s

pub along_last_stops : {A : Type 0} (old now new : Made) (whole last : Making A) (err : BuildErr) → Along old whole now last → Stops now new (last (length now.gates)) err → Stops old new (whole (length old.gates)) err
along_last_stops old now new whole last (Full limit) a s = (extends_extends old now new a.stands s.0, a.fits ∙ s.1)
along_last_stops old now new whole last Memory a s = extends_extends old now new a.stands s

pub along_refused : {A B : Type 0} (old now new : Made) (whole : Making A) (first : Making B) (rest : B → Making A) (err : BuildErr)
    → Along old whole now (first >>= rest) → Refuses now new (first (length now.gates)) err → Stops old new (whole (length old.gates)) err
along_refused old now new whole first rest err a r = along_stops old now new whole first rest err a (stops now new (first (length now.gates)) err r)

pub along_memory : {A : Type 0} (old now : Made) (whole rest : Making A) → Along old whole now rest → Stops old now (whole (length old.gates)) Memory
along_memory old now whole rest a = a.stands

made_is : (x y : Made) → x.gates ≡ y.gates → x.most_ands ≡ y.most_ands → x.most_gates ≡ y.most_gates → x ≡ y
made_is x y e f g =
    ap (λ (gs : List Gate). record { gates = gs; most_ands = x.most_ands; most_gates = x.most_gates }) e
    ∙ ap (λ (n : ℕ). record { gates = y.gates; most_ands = n; most_gates = x.most_gates }) f
    ∙ ap (λ (n : ℕ). record { gates = y.gates; most_ands = y.most_ands; most_gates = n }) g

-- no gate is made
pub makes_none : {A : Type 0} (made : Made) (x : A) → Makes made made (gives x (length made.gates)) x
unfolding gives
makes_none made x = record { gates = sym (append-nil made.gates); gives = refl; fits = refl; bounds = record { ands = refl; gates = refl } }

cut_is : (old mid now : Made) → Extends old mid → IsCut mid now (take (length old.gates) mid.gates) → now ≡ old
cut_is old mid now e c =
    let x = e.bounds in
    let y = c.bounds in
    made_is now old (c.gates ∙ e.gates) (y.ands ∙ x.ands) (y.gates ∙ x.gates)

-- a block that stopped, taken back
pub refuses_cut : {A : Type 0} (old mid now : Made) (block : Block A) (err : BuildErr) → Stops old mid block err → IsCut mid now (take (length old.gates) mid.gates) → Refuses old now block err
refuses_cut old mid now block (Full limit) s c = (cut_is old mid now s.0 c, s.1)
refuses_cut old mid now block Memory s c = cut_is old mid now s c

-- ---- an exit by `?`
pub exit_tries : {A : Type 0} (old now : Made) (making : Making A) (result : Result A BuildErr) (err : BuildErr) → IsErrAnd result (λ e. e ≡ err) → Stops old now (making (length old.gates)) err → Tries old now making result
exit_tries {A} old now making (Err e) err is s = subst (λ (e : BuildErr). Stops old now (making (length old.gates)) e) (sym is) s
exit_tries {A} old now making (Ok x) err is s = absurd is

pub exit_tries_list : (old now : Made) (making : Making (List ℕ)) (result : Result (Vec ℕ Global) BuildErr) (err : BuildErr) → IsErrAnd result (λ e. e ≡ err) → Stops old now (making (length old.gates)) err → TriesList old now making result
exit_tries_list old now making (Err e) err is s = subst (λ (e : BuildErr). Stops old now (making (length old.gates)) e) (sym is) s
exit_tries_list old now making (Ok x) err is s = absurd is

pub makes_longer : {A : Type 0} (old now : Made) (block : Block A) (x : A) → Makes old now block x → length now.gates ≡ length old.gates + length block.gates
makes_longer old now block x m = ap length m.gates ∙ length-append old.gates block.gates

-- ---- a list that is given element by element
-- what was given so far stands before what is given next
abbrev pub give_after : {A : Type 0} → List A → List A → Making (List A)
give_after front rest = gives (front ++ rest)

each_opened : {X A : Type 0} (f : X → Making A) (x : X) (xs : List X) (front : List A) (n : ℕ)
    → (each f (x ∷ xs) >>= give_after front) n ≡ (f x >>= λ a. each f xs >>= give_after (front ++ a ∷ [])) n
each_opened {X} {A} f x xs front n =
    then-then (f x) _ (give_after front) n
    ∙ then_same (f x) _ _ n (λ a m. then-then (each f xs) _ (give_after front) m
    ∙ then_same (each f xs) _ (give_after (front ++ a ∷ [])) m (λ rest k. gives-then (a ∷ rest) (give_after front) k ∙ ap (λ (ys : List A). gives ys k) (sym (append_assoc front (a ∷ []) rest))))

pub each_begin : {X A : Type 0} (made : Made) (f : X → Making A) (xs : List X) → Along made (each f xs) made (each f xs >>= give_after [])
each_begin made f xs = along_as made made _ (each f xs) _ (λ n. sym (then-gives (each f xs) n)) (along_begin made (each f xs))

pub each_next : {X A : Type 0} (old now new : Made) (whole : Making (List A)) (f : X → Making A) (x : X) (xs : List X) (front : List A) (a : A)
    → Along old whole now (each f (x ∷ xs) >>= give_after front) → Makes now new (f x (length now.gates)) a → Along old whole new (each f xs >>= give_after (front ++ a ∷ []))
each_next {X} {A} old now new whole f x xs front a along m =
    along_next old now new whole (f x) (λ b. each f xs >>= give_after (front ++ b ∷ [])) a (along_as old now whole _ _ (each_opened f x xs front) along) m

pub each_stops : {X A : Type 0} (old now new : Made) (whole : Making (List A)) (f : X → Making A) (x : X) (xs : List X) (front : List A) (err : BuildErr)
    → Along old whole now (each f (x ∷ xs) >>= give_after front) → Stops now new (f x (length now.gates)) err → Stops old new (whole (length old.gates)) err
each_stops {X} {A} old now new whole f x xs front err along s =
    along_stops old now new whole (f x) (λ b. each f xs >>= give_after (front ++ b ∷ [])) err (along_as old now whole _ _ (each_opened f x xs front) along) s

pub each_end : {X A : Type 0} (old now : Made) (whole : Making (List A)) (f : X → Making A) (front : List A) → Along old whole now (each f [] >>= give_after front) → Makes old now (whole (length old.gates)) front
each_end {X} {A} old now whole f front along =
    along_end old now whole front (along_as old now whole _ _ (λ n. gives-then [] (give_after front) n ∙ ap (λ (ys : List A). gives ys n) (append-nil front)) along)

-- ---- a call that makes all or nothing, as a step of a call that may stop
pub builds_tries : (old now : Made) (making : Making ℕ) (result : Result ℕ BuildErr) → Builds old now making result → Tries old now making result
builds_tries old now making (Ok x) b = b
builds_tries old now making (Err e) b = stops old now (making (length old.gates)) e b

-- the last step of a block
pub last_tries : {A : Type 0} (old now new : Made) (whole last : Making A) (result : Result A BuildErr) → Along old whole now last → Tries now new last result → Tries old new whole result
last_tries {A} old now new whole last (Ok x) a t = along_last old now new whole last x a t
last_tries {A} old now new whole last (Err e) a t = along_last_stops old now new whole last e a t
