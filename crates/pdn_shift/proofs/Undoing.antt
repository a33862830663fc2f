-- The change made the other way.
use Rattle.std.proofs.Common.{◌≡◌, ℕ, suc, List, [], ◌∷◌, length, map, refl, sym, ap, ◌∙◌, arith}
use Rattle.std.proofs.lemmas.List.{length-map}
use lib.Lanes.{zip2}
use Rattle.pdn_base.specs.Words.{◌⊕◌, xor_lists}
use Rattle.pdn_base.proofs.WordLaws.{there_and_back, kept_and_back}
use Rattle.pdn_base.proofs.WordLists.{get_or-xor_lists}
use Rattle.pdn_base.specs.declared.site.Site.{Site}
use Rattle.pdn_base.specs.declared.site.Site.TheVariants.{A, B}
use Rattle.pdn_circuit.specs.declared.gate.Gate.{Gate}
use Rattle.pdn_circuit.specs.Gates.{Net, InputWords, values, Pair, read_pair, ands, operand_words}
use Rattle.pdn_circuit.proofs.Reading.{length-values}
use Rattle.pdn_dealer.specs.Sections.{Five, Layout, product_of, layout_words, layout_of}
use Rattle.pdn_dealer.proofs.SectionWords.{covers_of, words_of_layout, layout_of_words, length-layout_words}
use Rattle.pdn_shift.specs.Changes.{operand_differences, taken_up, shift, BackLaw, BackWordsLaw}

-- ---- the differences, told from both worlds' operands
abbrev pub apart : Pair → Pair → Pair
apart p q = record { x = p.x ⊕ q.x; y = p.y ⊕ q.y }

abbrev pub changed_all : Site → List Pair → List Pair → List Five → List Five
changed_all site ps qs fs = zip2 (taken_up site) (zip2 apart ps qs) fs

pub length-operand_words : (inputs : InputWords) (gates : List Gate) → length (operand_words inputs gates) ≡ length (ands gates)
length-operand_words inputs gates = length-map (ands gates) (read_pair (values inputs gates))

all_apart : (xs ys : List ℕ) (ps : List Pair) → length ys ≡ length xs → map (read_pair (xor_lists xs ys)) ps ≡ zip2 apart (map (read_pair xs) ps) (map (read_pair ys) ps)
all_apart xs ys [] l = refl
all_apart xs ys (p ∷ ps) l = rw (get_or-xor_lists xs ys l p.x, get_or-xor_lists xs ys l p.y, all_apart xs ys ps l) refl

differences_apart : (first second : InputWords) (gates : List Gate) → operand_differences first second gates ≡ zip2 apart (operand_words first gates) (operand_words second gates)
differences_apart first second gates =
    all_apart (values first gates) (values second gates) (ands gates) (length-values second gates ∙ sym (length-values first gates))

pub as_changed : (site : Site) (net : Net) (first second : InputWords) (t : Layout)
    → (shift site net first second t).fives ≡ changed_all site (operand_words first net.gates) (operand_words second net.gates) t.fives
as_changed site net first second t = ap (λ (ds : List Pair). zip2 (taken_up site) ds t.fives) (differences_apart first second net.gates)

-- ---- one gate, and all
undone : (site : Site) (p q : Pair) (f : Five) → taken_up site (apart q p) (taken_up site (apart p q) f) ≡ f
undone A p q f = rw (there_and_back f.a1 p.x q.x, there_and_back f.b1 p.y q.y) refl
undone B p q f = rw (there_and_back f.a0 p.x q.x, there_and_back f.b0 p.y q.y, kept_and_back f.c0 (product_of f) (product_of (taken_up B (apart p q) f))) refl

all_undone : (site : Site) (ps qs : List Pair) (fs : List Five) → length ps ≡ length fs → length qs ≡ length fs → changed_all site qs ps (changed_all site ps qs fs) ≡ fs
all_undone site [] [] [] l m = refl
all_undone site [] (q ∷ qs) [] l m = absurd (omega arith)
all_undone site [] qs (f ∷ fs) l m = absurd (omega arith)
all_undone site (p ∷ ps) qs [] l m = absurd (omega arith)
all_undone site (p ∷ ps) [] (f ∷ fs) l m = absurd (omega arith)
all_undone site (p ∷ ps) (q ∷ qs) (f ∷ fs) l m = rw (undone site p q f, all_undone site ps qs fs (omega arith) (omega arith)) refl

length-taken_up : (site : Site) (ds : List Pair) (fs : List Five) → length ds ≡ length fs → length (zip2 (taken_up site) ds fs) ≡ length fs
length-taken_up site [] [] l = refl
length-taken_up site [] (f ∷ fs) l = absurd (omega arith)
length-taken_up site (d ∷ ds) [] l = absurd (omega arith)
length-taken_up site (d ∷ ds) (f ∷ fs) l = ap suc (length-taken_up site ds fs (omega arith))

-- ---- a section, and its words
pub back_law : BackLaw
back_law site net first second t c =
    let ps : List Pair = operand_words first net.gates in
    let qs : List Pair = operand_words second net.gates in
    let lp : length ps ≡ length t.fives = length-operand_words first net.gates ∙ sym c.fives in
    let lq : length qs ≡ length t.fives = length-operand_words second net.gates ∙ sym c.fives in
    let ld : length (operand_differences first second net.gates) ≡ length (ands net.gates) = length-map (ands net.gates) _ in
    let s : Layout = shift site net first second t in
    record {
      covers = record { r = c.r; fives = length-taken_up site (operand_differences first second net.gates) t.fives (ld ∙ sym c.fives) ∙ c.fives; masks = c.masks };
      back = ap (λ (fs : List Five). record t { fives = fs })
          (as_changed site net second first s
          ∙ ap (λ (fs : List Five). changed_all site qs ps fs) (as_changed site net first second t)
          ∙ all_undone site ps qs t.fives lp lq);
    }

pub back_words_law : BackWordsLaw
back_words_law site net first second words l =
    let t : Layout = layout_of net words in
    let s : Layout = shift site net first second t in
    let undone = back_law site net first second t (covers_of net words l) in
    record {
      long = length-layout_words net s undone.covers;
      back = ap (λ (u : Layout). layout_words (shift site net second first u)) (layout_of_words net s undone.covers)
          ∙ ap layout_words undone.back
          ∙ words_of_layout net words l;
    }
