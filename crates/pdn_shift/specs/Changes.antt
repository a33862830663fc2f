-- The change of a unit's section between two worlds: a site's own words of it stay, and the other site's masks take up
-- what differs.
use Rattle.std.specs.Prelude.{◌≡◌, ℕ, ◌+◌, ◌*◌, List, ◌++◌, length, map, take, drop}
use Rattle.std.specs.List.{flat_map}
use lib.Lanes.{zip2}
use Rattle.pdn_base.specs.Words.{◌⊕◌, xor_lists}
use Rattle.pdn_base.specs.declared.site.Site.{Site}
use Rattle.pdn_base.specs.declared.site.Site.TheVariants.{A, B}
use Rattle.pdn_circuit.specs.declared.gate.Gate.{Gate}
use Rattle.pdn_circuit.specs.Gates.{Net, InputWords, values, Pair, read_pair, ands}
use Rattle.pdn_dealer.specs.Sections.{Five, Layout, five_words, fives_of, product_of, Covers, r_count, five_count, section_length, layout_of, layout_words}

-- by which words the gates' values differ
abbrev pub differences : InputWords → InputWords → List Gate → List ℕ
differences first second gates = xor_lists (values first gates) (values second gates)

-- by which the operands of each And gate differ
abbrev pub operand_differences : InputWords → InputWords → List Gate → List Pair
operand_differences first second gates = map (read_pair (differences first second gates)) (ands gates)

-- an And gate's five words, where its operands differ by d.x and d.y: the other site's a and b take this up; for B
-- c0 takes up by what the masks' product changes, and so B's own c stays
abbrev pub taken_up : Site → Pair → Five → Five
taken_up A d f = record f { a1 = f.a1 ⊕ d.x; b1 = f.b1 ⊕ d.y }
taken_up B d f =
    let g : Five = record f { a0 = f.a0 ⊕ d.x; b0 = f.b0 ⊕ d.y } in
    record g { c0 = f.c0 ⊕ product_of f ⊕ product_of g }

abbrev pub shift : Site → Net → InputWords → InputWords → Layout → Layout
shift site net first second t = record t { fives = zip2 (taken_up site) (operand_differences first second net.gates) t.fives }

-- the same on the words of the tape
abbrev pub shift_words : Site → Net → InputWords → InputWords → List ℕ → List ℕ
shift_words site net first second words = layout_words (shift site net first second (layout_of net words))

-- ---- the change is one to one: made the other way it gives the section back
pub record IsUndone (site : Site) (net : Net) (first second : InputWords) (t : Layout) : Type 0 where
  pub covers : Covers net (shift site net first second t)
  pub back : shift site net second first (shift site net first second t) ≡ t

abbrev pub BackLaw : Type 0
BackLaw = (site : Site) (net : Net) (first second : InputWords) (t : Layout) → Covers net t → IsUndone site net first second t

-- the same on words
pub record AreUndone (site : Site) (net : Net) (first second : InputWords) (words : List ℕ) : Type 0 where
  pub long : length (shift_words site net first second words) ≡ section_length net
  pub back : shift_words site net second first (shift_words site net first second words) ≡ words

abbrev pub BackWordsLaw : Type 0
BackWordsLaw = (site : Site) (net : Net) (first second : InputWords) (words : List ℕ) → length words ≡ section_length net → AreUndone site net first second words

-- ---- how the code goes along the gates; not part of a promise
-- the changed words of some And gates, where `words` begin with the first one's five
abbrev pub fives_changed : Site → List ℕ → List Pair → List ℕ → List ℕ
fives_changed site differences ps words = flat_map five_words (zip2 (taken_up site) (map (read_pair differences) ps) (fives_of (length ps) words))

-- a whole section, where the gates' values differ by these words
abbrev pub section_changed : Site → Net → List ℕ → List ℕ → List ℕ
section_changed site net differences words =
    take (r_count net) words
    ++ fives_changed site differences (ands net.gates) (drop (r_count net) words)
    ++ drop (r_count net + 5 * five_count net) words
