-- The words of one section in two worlds: what the circuit takes, the section made of words, and the places at which two lists differ.
use Rattle.std.proofs.Common.{◌≡◌, ℕ, ◌+◌, ◌<◌, Bool, not, cond, List, [], ◌∷◌, ◌++◌, length, get_or, map, filter, refl, sym, ap, ap₂, ◌∙◌, arith, append_assoc, append-nil}
use Rattle.std.specs.Prelude.{◌==◌}
use Rattle.std.specs.List.{range_with_len}
use Rattle.std.proofs.lemmas.List.{ext_get_or, get_or_read}
use Rattle.std.proofs.lemmas.List.Elements.{filter-append}
use Rattle.std.proofs.lemmas.List.FromFn.{length-map-range_with_len, get_or-map-range_with_len}
use Rattle.pdn_base.proofs.WordLists.{length-xor_lists}
use Rattle.pdn_circuit.specs.Gates.{Net, HasCounts}
use Rattle.pdn_dealer.specs.Tapes.{Entry, first_words, list_tape}
use Rattle.pdn_gmw.proofs.Layering.{range_more}
use Rattle.pdn_broker.specs.Runs.{Both, Takes, world}
use Rattle.pdn_twin.specs.Twins.{differs}

-- the plain words are as many as the circuit takes
pub plain_counts : (net : Net) (own given : Both) → Takes net own given → HasCounts net (world own given).inputs
plain_counts net own given t = record { a = t.own_a; b = t.own_b; given = length-xor_lists given.a given.b (t.given_b ∙ sym t.given_a) ∙ t.given_a }

pub given_long : (net : Net) (own given : Both) → Takes net own given → length given.b ≡ length given.a
given_long net own given t = t.given_b ∙ sym t.given_a

-- ---- the section of just these words
all_words : (words : List ℕ) → first_words (λ k. get_or words k 0) (length words) ≡ words
all_words words =
    let read : ℕ → ℕ = λ k. get_or words k 0 in
    let long : length (map read (range_with_len 0 (length words))) ≡ length words = length-map-range_with_len read 0 (length words) in
    ext_get_or 0 (map read (range_with_len 0 (length words))) words long (λ i h. get_or-map-range_with_len read 0 (length words) i i 0 (omega (arith, h, long)) (omega arith))

pub whole_section : (words : List ℕ) (len : ℕ) (entries : List Entry) → len ≡ length words → entries ≡ record { ticket = 0; unit = 0; words = words } ∷ [] → first_words (list_tape entries 0 0) len ≡ words
whole_section words len entries l e =
    ap₂ (λ (es : List Entry) n. first_words (list_tape es 0 0) n) e l ∙ all_words words

-- ---- places
pub filtered_more : (test : ℕ → Bool) (k : ℕ) → filter test (range_with_len 0 (k + 1)) ≡ filter test (range_with_len 0 k) ++ cond (test k) (k ∷ []) []
filtered_more test k =
    let first : 0 + k ≡ k = omega arith in
    ap (λ (ns : List ℕ). filter test ns) (range_more 0 k ∙ ap (λ n. range_with_len 0 k ++ n ∷ []) first) ∙ filter-append test (range_with_len 0 k) (k ∷ [])

-- one place more
pub differs_more : (old new places more : List ℕ) (k x y : ℕ) → k < length old → length new ≡ length old → places ≡ filter (differs old new) (range_with_len 0 k) → x ≡ get_or old k x → y ≡ get_or new k y
    → more ≡ places ++ cond (not (x == y)) (k ∷ []) [] → more ≡ filter (differs old new) (range_with_len 0 (k + 1))
differs_more old new places more k x y h l p d e m =
    m ∙ ap₂ (λ (ps : List ℕ) (b : Bool). ps ++ cond b (k ∷ []) []) p (ap₂ (λ v w. not (v == w)) (get_or_read old k x h d 0) (get_or_read new k y (omega (arith, h, l)) e 0)) ∙ sym (filtered_more (differs old new) k)

-- ---- lists that are taken apart, one element after the other
pub taken_more : {X Y : Type 0} (f : X → Y) (done more : List Y) (rest next whole : List X) (x : X) → rest ≡ x ∷ next → more ≡ done ++ f x ∷ [] → done ++ map f rest ≡ map f whole → more ++ map f next ≡ map f whole
taken_more {X} {Y} f done more rest next whole x e m h =
    ap (λ (ys : List Y). ys ++ map f next) m ∙ append_assoc done (f x ∷ []) (map f next) ∙ ap (λ (xs : List X). done ++ map f xs) (sym e) ∙ h

pub taken_none : {X Y : Type 0} (f : X → Y) (done : List Y) (rest whole : List X) → done ≡ [] → rest ≡ whole → done ++ map f rest ≡ map f whole
taken_none {X} {Y} f done rest whole d e = ap₂ (λ (ys : List Y) (xs : List X). ys ++ map f xs) d e

pub taken_all : {X Y : Type 0} (f : X → Y) (done : List Y) (rest whole : List X) → length rest ≡ 0 → done ++ map f rest ≡ map f whole → done ≡ map f whole
taken_all {X} {Y} f done [] whole e h = sym (append-nil done) ∙ h
taken_all {X} {Y} f done (x ∷ xs) whole e h = absurd (omega (arith, e))
