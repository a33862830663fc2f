-- Frames by depth: what is picked for a depth, and where what comes in is put.
use Rattle.std.proofs.Common.{◌≡◌, ℕ, suc, ◌+◌, ◌<◌, Bool, true, false, cond, eqb, ◌&&◌, List, [], ◌∷◌, ◌++◌, length, get_or, set, map, take, refl, sym, ap, ◌∙◌, ⊎_elim, arith, length-append, append_assoc}
use Rattle.std.specs.Prelude.{slice_index, slice_index_or}
use Rattle.std.specs.List.{filter, range_with_len}
use Rattle.std.proofs.lemmas.Bool.{cond-true, cond-false}
use Rattle.std.proofs.lemmas.Bool.Decides.{eqb_tells}
use Rattle.std.proofs.lemmas.List.{get_or_at, length-map}
use Rattle.pdn_circuit.specs.declared.gate.Gate.{Gate}
use Rattle.pdn_circuit.specs.declared.gate.Gate.TheVariants.{Input, Given, Const, Xor, And, Spread, Move}
use Rattle.pdn_circuit.specs.Gates.{operands_of, ands}
use Rattle.pdn_circuit.specs.Depths.{and_rounds_from, and_rounds, own_round, depths_of}
use Rattle.pdn_circuit.specs.Gates.{is_and}
use Rattle.pdn_gmw.specs.Shares.{Masked, blank}
use Rattle.pdn_gmw.specs.Rounds.{pick, put}
use Rattle.pdn_gmw.specs.Layers.{gate_at, number_of_and, is_layer_and}

-- the gates from a place on: how many And gates stand before it
pub record From (gates gs : List Gate) (from n : ℕ) : Type 0 where
  pub here : (k : ℕ) (d : Gate) → k < length gs → slice_index_or gates (from + k) d ≡ slice_index_or gs k d
  pub count : (k : ℕ) → number_of_and gates (from + k) ≡ n + length (ands (take k gs))

pub from_start : (gates : List Gate) → From gates gates 0 0
from_start gates = record {
  here = λ k d l. let z : 0 + k ≡ k = omega arith in ap (λ (i : ℕ). slice_index_or gates i d) z;
  count = λ k. let z : 0 + k ≡ k = omega arith in ap (number_of_and gates) z ∙ omega arith;
}

from_next : (gates gs : List Gate) (g : Gate) (from n m : ℕ) → m ≡ n + length (operands_of g) → From gates (g ∷ gs) from n → From gates gs (from + 1) m
from_next gates gs g from n m e f = record {
  here = λ k d l. let z : from + 1 + k ≡ from + suc k = omega arith in ap (λ (i : ℕ). slice_index_or gates i d) z ∙ f.here (suc k) d (omega arith);
  count = λ k. let z : from + 1 + k ≡ from + suc k = omega arith in ap (number_of_and gates) z ∙ f.count (suc k) ∙ omega (arith, e, length-append (operands_of g) (ands (take k gs)));
}

gate_here : (gates gs : List Gate) (g : Gate) (from n : ℕ) → From gates (g ∷ gs) from n → gate_at gates from ≡ g
gate_here gates gs g from n f = let z : from ≡ from + 0 = omega arith in ap (gate_at gates) z ∙ f.here 0 (Const 0) (omega arith)

number_here : (gates gs : List Gate) (from n : ℕ) → From gates gs from n → number_of_and gates from ≡ n
number_here gates gs from n f = let z : from ≡ from + 0 = omega arith in ap (number_of_and gates) z ∙ f.count 0 ∙ omega arith

-- a gate that is no And gate is in no layer's list of these
other_skipped : (gates : List Gate) (d from : ℕ) (g : Gate) (ks : List ℕ) → gate_at gates from ≡ g → is_and g ≡ false → cond (is_layer_and gates d from) (from ∷ ks) ks ≡ ks
other_skipped gates d from g ks e t = cond-false (is_layer_and gates d from) (from ∷ ks) ks (ap (λ (x : Gate). is_and x && eqb (slice_index (depths_of gates) from) d) e ∙ ap (λ b. b && eqb (slice_index (depths_of gates) from) d) t)

and_kept : (gates : List Gate) (d from : ℕ) (g : Gate) (b : Bool) → gate_at gates from ≡ g → is_and g ≡ true → eqb (slice_index (depths_of gates) from) d ≡ b → is_layer_and gates d from ≡ b
and_kept gates d from g b e t q = ap (λ (x : Gate). is_and x && eqb (slice_index (depths_of gates) from) d) e ∙ ap (λ c. c && eqb (slice_index (depths_of gates) from) d) t ∙ q

-- the numbers of the And gates of depth d
abbrev pub numbers : List Gate → ℕ → ℕ → ℕ → List ℕ
numbers gates d from n = map (number_of_and gates) (filter (is_layer_and gates d) (range_with_len from n))

numbers_skip : (gates gs : List Gate) (d from n : ℕ) (g : Gate) → From gates (g ∷ gs) from n → is_and g ≡ false → numbers gates d from (suc (length gs)) ≡ numbers gates d (from + 1) (length gs)
numbers_skip gates gs d from n g f t = ap (map (number_of_and gates)) (other_skipped gates d from g (filter (is_layer_and gates d) (range_with_len (from + 1) (length gs))) (gate_here gates gs g from n f) t)

numbers_yes : (gates gs : List Gate) (d from n x y : ℕ) → From gates (And x y ∷ gs) from n → eqb (slice_index (depths_of gates) from) d ≡ true → numbers gates d from (suc (length gs)) ≡ n ∷ numbers gates d (from + 1) (length gs)
numbers_yes gates gs d from n x y f t =
    let rest : List ℕ = filter (is_layer_and gates d) (range_with_len (from + 1) (length gs)) in
    ap (map (number_of_and gates)) (cond-true (is_layer_and gates d from) (from ∷ rest) rest (and_kept gates d from (And x y) true (gate_here gates gs (And x y) from n f) refl t))
    ∙ ap (λ (i : ℕ). i ∷ map (number_of_and gates) rest) (number_here gates (And x y ∷ gs) from n f)

numbers_no : (gates gs : List Gate) (d from n x y : ℕ) → From gates (And x y ∷ gs) from n → eqb (slice_index (depths_of gates) from) d ≡ false → numbers gates d from (suc (length gs)) ≡ numbers gates d (from + 1) (length gs)
numbers_no gates gs d from n x y f t =
    let rest : List ℕ = filter (is_layer_and gates d) (range_with_len (from + 1) (length gs)) in
    ap (map (number_of_and gates)) (cond-false (is_layer_and gates d from) (from ∷ rest) rest (and_kept gates d from (And x y) false (gate_here gates gs (And x y) from n f) refl t))

abbrev pub depth_of : List Gate → ℕ → ℕ
depth_of gates = slice_index (depths_of gates)

-- what is picked for depth d
abbrev pub read_at : List Masked → ℕ → Masked
read_at fs k = get_or fs k blank

skipped : (gates : List Gate) (d from n : ℕ) (g : Gate) (gs : List Gate) (pre fs : List Masked) → From gates (g ∷ gs) from n → is_and g ≡ false → n + 0 ≡ length pre
    → pick d (and_rounds_from (depth_of gates) (from + 1) gs) fs ≡ map (read_at (pre ++ fs)) (numbers gates d (from + 1) (length gs))
    → pick d (and_rounds_from (depth_of gates) (from + 1) gs) fs ≡ map (read_at (pre ++ fs)) (numbers gates d from (suc (length gs)))
skipped gates d from n g gs pre fs f t l e = e ∙ ap (map (read_at (pre ++ fs))) (sym (numbers_skip gates gs d from n g f t))

picked_from : (gates : List Gate) (d : ℕ) (gs : List Gate) (from n : ℕ) (pre fs : List Masked) → From gates gs from n → n ≡ length pre → length fs ≡ length (ands gs)
    → pick d (and_rounds_from (depth_of gates) from gs) fs ≡ map (read_at (pre ++ fs)) (numbers gates d from (length gs))
picked_from gates d [] from n pre fs f l m = refl
picked_from gates d (Input site index ∷ gs) from n pre fs f l m = skipped gates d from n (Input site index) gs pre fs f refl (omega arith) (picked_from gates d gs (from + 1) n pre fs (from_next gates gs (Input site index) from n n (omega arith) f) l m)
picked_from gates d (Given index ∷ gs) from n pre fs f l m = skipped gates d from n (Given index) gs pre fs f refl (omega arith) (picked_from gates d gs (from + 1) n pre fs (from_next gates gs (Given index) from n n (omega arith) f) l m)
picked_from gates d (Const word ∷ gs) from n pre fs f l m = skipped gates d from n (Const word) gs pre fs f refl (omega arith) (picked_from gates d gs (from + 1) n pre fs (from_next gates gs (Const word) from n n (omega arith) f) l m)
picked_from gates d (Xor x y ∷ gs) from n pre fs f l m = skipped gates d from n (Xor x y) gs pre fs f refl (omega arith) (picked_from gates d gs (from + 1) n pre fs (from_next gates gs (Xor x y) from n n (omega arith) f) l m)
picked_from gates d (Spread x lane ∷ gs) from n pre fs f l m = skipped gates d from n (Spread x lane) gs pre fs f refl (omega arith) (picked_from gates d gs (from + 1) n pre fs (from_next gates gs (Spread x lane) from n n (omega arith) f) l m)
picked_from gates d (Move x a count to ∷ gs) from n pre fs f l m = skipped gates d from n (Move x a count to) gs pre fs f refl (omega arith) (picked_from gates d gs (from + 1) n pre fs (from_next gates gs (Move x a count to) from n n (omega arith) f) l m)
picked_from gates d (And x y ∷ gs) from n pre [] f l m = absurd (omega arith)
picked_from gates d (And x y ∷ gs) from n pre (h ∷ fs) f l m =
    let es : List ℕ = and_rounds_from (depth_of gates) (from + 1) gs in
    let long : n + 1 ≡ length (pre ++ h ∷ []) = omega (arith, l, length-append pre (h ∷ [])) in
    let rest : pick d es fs ≡ map (read_at (pre ++ h ∷ fs)) (numbers gates d (from + 1) (length gs))
    = picked_from gates d gs (from + 1) (n + 1) (pre ++ h ∷ []) fs (from_next gates gs (And x y) from n (n + 1) (omega arith) f) long (omega arith)
    ∙ ap (λ (xs : List Masked). map (read_at xs) (numbers gates d (from + 1) (length gs))) (append_assoc pre (h ∷ []) fs) in
    ⊎_elim
    (λ t. cond-true (eqb (depth_of gates from) d) (h ∷ pick d es fs) (pick d es fs) t.0
    ∙ ap (λ (xs : List Masked). h ∷ xs) rest
    ∙ ap (λ (i : Masked). i ∷ map (read_at (pre ++ h ∷ fs)) (numbers gates d (from + 1) (length gs))) (sym (get_or_at pre h fs blank n (sym l)))
    ∙ ap (map (read_at (pre ++ h ∷ fs))) (sym (numbers_yes gates gs d from n x y f t.0)))
    (λ t. cond-false (eqb (depth_of gates from) d) (h ∷ pick d es fs) (pick d es fs) t.0 ∙ rest ∙ ap (map (read_at (pre ++ h ∷ fs))) (sym (numbers_no gates gs d from n x y f t.0)))
    (eqb_tells (depth_of gates from) d)

pub picked : (gates : List Gate) (d : ℕ) (fs : List Masked) → length fs ≡ length (ands gates) → pick d (and_rounds gates (depths_of gates)) fs ≡ map (read_at fs) (numbers gates d 0 (length gates))
picked gates d fs l = picked_from gates d gates 0 0 [] fs (from_start gates) refl l

-- what comes in, put at numbers
abbrev pub laid : List ℕ → List Masked → List Masked → List Masked
laid [] fs hs = hs
laid (k ∷ ks) [] hs = hs
laid (k ∷ ks) (f ∷ fs) hs = laid ks fs (set hs k f)

pub laid_none : (ks : List ℕ) (hs : List Masked) → laid ks [] hs ≡ hs
laid_none [] hs = refl
laid_none (k ∷ ks) hs = refl

set_here : (pre : List Masked) (h f : Masked) (hs : List Masked) (k : ℕ) → k ≡ length pre → set (pre ++ h ∷ hs) k f ≡ (pre ++ f ∷ []) ++ hs
set_here [] h f hs k e = ap (λ (i : ℕ). set (h ∷ hs) i f) e
set_here (p ∷ pre) h f hs k e = ap (λ (i : ℕ). set (p ∷ (pre ++ h ∷ hs)) i f) e ∙ ap (λ (xs : List Masked). p ∷ xs) (set_here pre h f hs (length pre) refl)

put_nothing : (d : ℕ) (es : List ℕ) (hs : List Masked) → length hs ≡ length es → put d es hs [] ≡ hs
put_nothing d [] [] l = refl
put_nothing d [] (h ∷ hs) l = absurd (omega arith)
put_nothing d (e ∷ es) [] l = absurd (omega arith)
put_nothing d (e ∷ es) (h ∷ hs) l = ap (λ (xs : List Masked). h ∷ xs) (put_nothing d es hs (omega arith))

laid_skip : (gates : List Gate) (d from n : ℕ) (g : Gate) (gs : List Gate) (pre hs fr : List Masked) → From gates (g ∷ gs) from n → is_and g ≡ false
    → pre ++ put d (and_rounds_from (depth_of gates) (from + 1) gs) hs fr ≡ laid (numbers gates d (from + 1) (length gs)) fr (pre ++ hs)
    → pre ++ put d (and_rounds_from (depth_of gates) (from + 1) gs) hs fr ≡ laid (numbers gates d from (suc (length gs))) fr (pre ++ hs)
laid_skip gates d from n g gs pre hs fr f t e = e ∙ ap (λ (ks : List ℕ). laid ks fr (pre ++ hs)) (sym (numbers_skip gates gs d from n g f t))

pub rounds_long : (round : ℕ → ℕ) (from : ℕ) (gs : List Gate) → length (and_rounds_from round from gs) ≡ length (ands gs)
rounds_long round from [] = refl
rounds_long round from (g ∷ gs) =
    let h = rounds_long round (from + 1) gs in
    omega (arith, length-append (own_round g (round from)) (and_rounds_from round (from + 1) gs), length-map (operands_of g) (λ p. round from), length-append (operands_of g) (ands gs))

put_from : (gates : List Gate) (d : ℕ) (gs : List Gate) (from n : ℕ) (pre hs fr : List Masked) → From gates gs from n → n ≡ length pre → length hs ≡ length (ands gs)
    → pre ++ put d (and_rounds_from (depth_of gates) from gs) hs fr ≡ laid (numbers gates d from (length gs)) fr (pre ++ hs)
put_from gates d [] from n pre [] fr f l m = refl
put_from gates d [] from n pre (h ∷ hs) fr f l m = absurd (omega arith)
put_from gates d (Input site index ∷ gs) from n pre hs fr f l m = laid_skip gates d from n (Input site index) gs pre hs fr f refl (put_from gates d gs (from + 1) n pre hs fr (from_next gates gs (Input site index) from n n (omega arith) f) l m)
put_from gates d (Given index ∷ gs) from n pre hs fr f l m = laid_skip gates d from n (Given index) gs pre hs fr f refl (put_from gates d gs (from + 1) n pre hs fr (from_next gates gs (Given index) from n n (omega arith) f) l m)
put_from gates d (Const word ∷ gs) from n pre hs fr f l m = laid_skip gates d from n (Const word) gs pre hs fr f refl (put_from gates d gs (from + 1) n pre hs fr (from_next gates gs (Const word) from n n (omega arith) f) l m)
put_from gates d (Xor x y ∷ gs) from n pre hs fr f l m = laid_skip gates d from n (Xor x y) gs pre hs fr f refl (put_from gates d gs (from + 1) n pre hs fr (from_next gates gs (Xor x y) from n n (omega arith) f) l m)
put_from gates d (Spread x lane ∷ gs) from n pre hs fr f l m = laid_skip gates d from n (Spread x lane) gs pre hs fr f refl (put_from gates d gs (from + 1) n pre hs fr (from_next gates gs (Spread x lane) from n n (omega arith) f) l m)
put_from gates d (Move x a count to ∷ gs) from n pre hs fr f l m = laid_skip gates d from n (Move x a count to) gs pre hs fr f refl (put_from gates d gs (from + 1) n pre hs fr (from_next gates gs (Move x a count to) from n n (omega arith) f) l m)
put_from gates d (And x y ∷ gs) from n pre [] fr f l m = absurd (omega arith)
put_from gates d (And x y ∷ gs) from n pre (h ∷ hs) [] f l m =
    let es : List ℕ = and_rounds_from (depth_of gates) (from + 1) gs in
    let same : put d es hs [] ≡ hs = put_nothing d es hs (omega (arith, m, rounds_long (depth_of gates) (from + 1) gs)) in
    ap (λ (xs : List Masked). pre ++ h ∷ xs) same ∙ sym (laid_none (numbers gates d from (suc (length gs))) (pre ++ h ∷ hs))
put_from gates d (And x y ∷ gs) from n pre (h ∷ hs) (i ∷ fr) f l m =
    let es : List ℕ = and_rounds_from (depth_of gates) (from + 1) gs in
    let next : From gates gs (from + 1) (n + 1) = from_next gates gs (And x y) from n (n + 1) (omega arith) f in
    ⊎_elim
    (λ t. ap (λ (xs : List Masked). pre ++ xs) (cond-true (eqb (depth_of gates from) d) (i ∷ put d es hs fr) (h ∷ put d es hs (i ∷ fr)) t.0)
    ∙ sym (append_assoc pre (i ∷ []) (put d es hs fr))
    ∙ put_from gates d gs (from + 1) (n + 1) (pre ++ i ∷ []) hs fr next (omega (arith, l, length-append pre (i ∷ []))) (omega arith)
    ∙ ap (laid (numbers gates d (from + 1) (length gs)) fr) (sym (set_here pre h i hs n l))
    ∙ ap (λ (ks : List ℕ). laid ks (i ∷ fr) (pre ++ h ∷ hs)) (sym (numbers_yes gates gs d from n x y f t.0)))
    (λ t. ap (λ (xs : List Masked). pre ++ xs) (cond-false (eqb (depth_of gates from) d) (i ∷ put d es hs fr) (h ∷ put d es hs (i ∷ fr)) t.0)
    ∙ sym (append_assoc pre (h ∷ []) (put d es hs (i ∷ fr)))
    ∙ put_from gates d gs (from + 1) (n + 1) (pre ++ h ∷ []) hs (i ∷ fr) next (omega (arith, l, length-append pre (h ∷ []))) (omega arith)
    ∙ ap (laid (numbers gates d (from + 1) (length gs)) (i ∷ fr)) (append_assoc pre (h ∷ []) hs)
    ∙ ap (λ (ks : List ℕ). laid ks (i ∷ fr) (pre ++ h ∷ hs)) (sym (numbers_no gates gs d from n x y f t.0)))
    (eqb_tells (depth_of gates from) d)

pub put_laid : (gates : List Gate) (d : ℕ) (hs fr : List Masked) → length hs ≡ length (ands gates) → put d (and_rounds gates (depths_of gates)) hs fr ≡ laid (numbers gates d 0 (length gates)) fr hs
put_laid gates d hs fr l = put_from gates d gates 0 0 [] hs fr (from_start gates) refl l

-- what was put for a depth is what is picked for it
pub pick_put : (d : ℕ) (es : List ℕ) (hs fr : List Masked) → length hs ≡ length es → length (pick d es hs) ≡ length fr → pick d es (put d es hs fr) ≡ fr
pick_put d [] [] [] l m = refl
pick_put d [] [] (f ∷ fr) l m = absurd (omega arith)
pick_put d [] (h ∷ hs) fr l m = absurd (omega arith)
pick_put d (e ∷ es) [] fr l m = absurd (omega arith)
pick_put d (e ∷ es) (h ∷ hs) [] l m =
    ⊎_elim
    (λ t. let z = ap length (cond-true (eqb e d) (h ∷ pick d es hs) (pick d es hs) t.0) in absurd (omega (arith, m, z)))
    (λ t. let z = ap length (cond-false (eqb e d) (h ∷ pick d es hs) (pick d es hs) t.0) in
    cond-false (eqb e d) (h ∷ pick d es (put d es hs [])) (pick d es (put d es hs [])) t.0 ∙ pick_put d es hs [] (omega arith) (omega (arith, m, z)))
    (eqb_tells e d)
pick_put d (e ∷ es) (h ∷ hs) (f ∷ fr) l m =
    ⊎_elim
    (λ t. let z = ap length (cond-true (eqb e d) (h ∷ pick d es hs) (pick d es hs) t.0) in
    ap (pick d (e ∷ es)) (cond-true (eqb e d) (f ∷ put d es hs fr) (h ∷ put d es hs (f ∷ fr)) t.0)
    ∙ cond-true (eqb e d) (f ∷ pick d es (put d es hs fr)) (pick d es (put d es hs fr)) t.0
    ∙ ap (λ (xs : List Masked). f ∷ xs) (pick_put d es hs fr (omega arith) (omega (arith, m, z))))
    (λ t. let z = ap length (cond-false (eqb e d) (h ∷ pick d es hs) (pick d es hs) t.0) in
    ap (pick d (e ∷ es)) (cond-false (eqb e d) (f ∷ put d es hs fr) (h ∷ put d es hs (f ∷ fr)) t.0)
    ∙ cond-false (eqb e d) (h ∷ pick d es (put d es hs (f ∷ fr))) (pick d es (put d es hs (f ∷ fr))) t.0
    ∙ pick_put d es hs (f ∷ fr) (omega arith) (omega (arith, m, z)))
    (eqb_tells e d)
