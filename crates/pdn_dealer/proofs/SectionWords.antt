-- A section's words, and the layout that words have.
use Rattle.std.proofs.Common.{◌≡◌, ℕ, zero, suc, ◌+◌, ◌*◌, ◌≤◌, List, [], ◌∷◌, ◌++◌, length, take, drop, cond, map, refl, sym, ap, ◌∙◌, arith, length-append, length-drop, length-take-le, append_assoc}
use Rattle.std.specs.List.{flat_map, count_by}
use Rattle.std.proofs.lemmas.List.Recursion.{is_count_by}
use Rattle.std.proofs.lemmas.List.{map_push, take-append-drop, drop-drop, take_at, drop_at}
use Rattle.pdn_circuit.specs.declared.gate.Gate.{Gate}
use Rattle.pdn_circuit.specs.declared.gate.Gate.TheVariants.{Input, Given, Const, Xor, And, Spread, Move}
use Rattle.pdn_circuit.specs.Gates.{Net, ands, is_and}
use Rattle.pdn_base.specs.declared.site.Site.{Site}
use Rattle.pdn_dealer.specs.Sections.{Five, Layout, Triple, triple_of, five_words, five_of, layout_words, fives_of, r_count, five_count, section_length, layout_of, Covers}

-- ---- the And gates
one_more : (g : Gate) (gs : List Gate) → length (ands (g ∷ gs)) ≡ cond (is_and g) (1 + length (ands gs)) (length (ands gs))
one_more (Input site index) gs = refl
one_more (Given index) gs = refl
one_more (Const word) gs = refl
one_more (Xor a b) gs = refl
one_more (And a b) gs = omega arith
one_more (Spread a lane) gs = refl
one_more (Move a from count to) gs = refl

pub length-ands : (gates : List Gate) → length (ands gates) ≡ count_by is_and gates
length-ands gates = is_count_by (λ (gs : List Gate). length (ands gs)) is_and refl one_more gates

-- ---- five words for each
pub length-five_words : (fs : List Five) → length (flat_map five_words fs) ≡ 5 * length fs
length-five_words [] = refl
length-five_words (f ∷ fs) = let h = length-five_words fs in omega arith

pub length-fives_of : (k : ℕ) (ws : List ℕ) → length (fives_of k ws) ≡ k
length-fives_of zero ws = refl
length-fives_of (suc k) ws = ap suc (length-fives_of k (drop 5 ws))

pub fives_more : (k : ℕ) (ws : List ℕ) → fives_of (k + 1) ws ≡ fives_of k ws ++ five_of (drop (5 * k) ws) ∷ []
fives_more zero ws = refl
fives_more (suc k) ws =
    let there : drop (5 * k) (drop 5 ws) ≡ drop (5 * suc k) ws = drop-drop (5 * k) 5 ws ∙ ap (λ (n : ℕ). drop n ws) (omega arith) in
    let n : suc k + 1 ≡ suc (k + 1) = omega arith in
    ap (λ (j : ℕ). fives_of j ws) n
    ∙ ap (λ (fs : List Five). five_of ws ∷ fs) (fives_more k (drop 5 ws))
    ∙ ap (λ (vs : List ℕ). five_of ws ∷ (fives_of k (drop 5 ws) ++ five_of vs ∷ [])) there

fives_again : (fs : List Five) (more : List ℕ) → fives_of (length fs) (flat_map five_words fs ++ more) ≡ fs
fives_again [] more = refl
fives_again (f ∷ fs) more = ap (λ (gs : List Five). f ∷ gs) (fives_again fs more)

words_again : (k : ℕ) (ws : List ℕ) → 5 * k ≤ length ws → flat_map five_words (fives_of k ws) ++ drop (5 * k) ws ≡ ws
words_again zero ws h = refl
words_again (suc k) (a ∷ b ∷ c ∷ d ∷ e ∷ ws) h =
    let n : 5 * suc k ≡ suc (suc (suc (suc (suc (5 * k))))) = omega arith in
    rw n (ap (λ (vs : List ℕ). a ∷ b ∷ c ∷ d ∷ e ∷ vs) (words_again k ws (omega arith)))
words_again (suc k) [] h = absurd (omega arith)
words_again (suc k) (a ∷ []) h = absurd (omega arith)
words_again (suc k) (a ∷ b ∷ []) h = absurd (omega arith)
words_again (suc k) (a ∷ b ∷ c ∷ []) h = absurd (omega arith)
words_again (suc k) (a ∷ b ∷ c ∷ d ∷ []) h = absurd (omega arith)

-- one triple more in a loop
pub triples_step : (site : Site) (k : ℕ) (words : List ℕ) (ts us : List Triple) (t : Triple) → ts ≡ map (triple_of site) (fives_of k words) → t ≡ triple_of site (five_of (drop (5 * k) words)) → us ≡ ts ++ t ∷ []
    → us ≡ map (triple_of site) (fives_of (k + 1) words)
triples_step site k words ts us t e f g =
    g ∙ rw (e, f) (sym (map_push (triple_of site) (fives_of k words) (five_of (drop (5 * k) words)))
    ∙ ap (map (triple_of site)) (sym (fives_more k words)))

-- ---- words and their layout
pub covers_of : (net : Net) (words : List ℕ) → length words ≡ section_length net → Covers net (layout_of net words)
covers_of net words l = record {
  r = length-take-le (r_count net) words (omega arith);
  fives = length-fives_of (five_count net) (drop (r_count net) words);
  masks = length-drop (r_count net + 5 * five_count net) words ∙ omega arith;
}

pub words_of_layout : (net : Net) (words : List ℕ) → length words ≡ section_length net → layout_words (layout_of net words) ≡ words
words_of_layout net words l =
    let n : ℕ = r_count net in
    let k : ℕ = five_count net in
    let fs : List ℕ = flat_map five_words (fives_of k (drop n words)) in
    append_assoc (take n words) fs (drop (n + 5 * k) words)
    ∙ ap (λ (ws : List ℕ). take n words ++ (fs ++ ws)) (sym (drop-drop (5 * k) n words))
    ∙ ap (λ (ws : List ℕ). take n words ++ ws) (words_again k (drop n words) (omega (arith, length-drop n words)))
    ∙ take-append-drop n words

pub layout_of_words : (net : Net) (t : Layout) → Covers net t → layout_of net (layout_words t) ≡ t
layout_of_words net t c =
    let n : ℕ = r_count net in
    let k : ℕ = five_count net in
    let fs : List ℕ = flat_map five_words t.fives in
    let whole = append_assoc t.r fs t.masks in
    let lf = length-five_words t.fives in
    let lr = c.r in
    let lk = c.fives in
    let front : take n (layout_words t) ≡ t.r = ap (take n) whole ∙ take_at t.r (fs ++ t.masks) n lr in
    let back : drop n (layout_words t) ≡ fs ++ t.masks = ap (drop n) whole ∙ drop_at t.r (fs ++ t.masks) n lr in
    let mid : fives_of k (drop n (layout_words t)) ≡ t.fives = ap (fives_of k) back ∙ ap (λ j. fives_of j (fs ++ t.masks)) (sym lk) ∙ fives_again t.fives t.masks in
    let last : drop (n + 5 * k) (layout_words t) ≡ t.masks = drop_at (t.r ++ fs) t.masks (n + 5 * k) (omega (arith, length-append t.r fs)) in
    rw (front, mid, last) refl

pub length-layout_words : (net : Net) (t : Layout) → Covers net t → length (layout_words t) ≡ section_length net
length-layout_words net t c =
    let lr = c.r in let lf = c.fives in let lm = c.masks in
    omega (arith, length-append (t.r ++ flat_map five_words t.fives) t.masks, length-append t.r (flat_map five_words t.fives), length-five_words t.fives)
