-- What a section of the tape holds for a circuit, and the parts that it is split into.
pub use Rattle.pdn_dealer.specs.declared.parts.Triple.{Triple}
use Rattle.std.specs.Prelude.{◌≡◌, ℕ, zero, suc, ◌+◌, ◌*◌, if◌then◌else◌, Bool, true, false, List, [], ◌∷◌, ◌++◌, length, take, drop, map, slice_index}
use Rattle.std.specs.List.{flat_map, count_by}
use Rattle.pdn_base.specs.Words.{◌⊕◌, ◌⊗◌}
use Rattle.pdn_base.specs.declared.site.Site.{Site}
use Rattle.pdn_base.specs.declared.site.Site.TheVariants.{A, B}
use Rattle.pdn_circuit.specs.declared.gate.Gate.{Gate}
use Rattle.pdn_circuit.specs.declared.gate.Gate.TheVariants.{Input, Given, Const, Xor, And, Spread, Move}
use Rattle.pdn_circuit.specs.Gates.{Net, ands, is_input}

-- the five words of an And gate: both sites' a and b, and A's c
pub record Five : Type 0 where
  pub a0 : ℕ
  pub a1 : ℕ
  pub b0 : ℕ
  pub b1 : ℕ
  pub c0 : ℕ

abbrev pub no_five : Five
no_five = record { a0 = 0; a1 = 0; b0 = 0; b1 = 0; c0 = 0 }

-- a section: a word r for each Input gate, five words for each And gate, and a mask for each output that is released
pub record Layout : Type 0 where
  pub r : List ℕ
  pub fives : List Five
  pub masks : List ℕ

-- ---- how many words a circuit needs
abbrev pub r_count : Net → ℕ
r_count net = count_by is_input net.gates

abbrev pub five_count : Net → ℕ
five_count net = length (ands net.gates)

abbrev pub mask_count : Net → ℕ
mask_count net = if net.released then length net.outputs else 0

abbrev pub section_length : Net → ℕ
section_length net = r_count net + 5 * five_count net + mask_count net

-- ---- a section's words in their order
abbrev pub five_words : Five → List ℕ
five_words f = f.a0 ∷ f.a1 ∷ f.b0 ∷ f.b1 ∷ f.c0 ∷ []

abbrev pub layout_words : Layout → List ℕ
layout_words t = t.r ++ flat_map five_words t.fives ++ t.masks

-- and what words in this order hold
abbrev pub five_of : List ℕ → Five
five_of words = record {
  a0 = slice_index words 0;
  a1 = slice_index words 1;
  b0 = slice_index words 2;
  b1 = slice_index words 3;
  c0 = slice_index words 4;
}

abbrev pub fives_of : ℕ → List ℕ → List Five
fives_of zero words = []
fives_of (suc count) words = five_of words ∷ fives_of count (drop 5 words)

abbrev pub layout_of : Net → List ℕ → Layout
layout_of net words = record {
  r = take (r_count net) words;
  fives = fives_of (five_count net) (drop (r_count net) words);
  masks = drop (r_count net + 5 * five_count net) words;
}

-- a section that has the words which the circuit needs
pub record Covers (net : Net) (t : Layout) : Type 0 where
  pub r : length t.r ≡ r_count net
  pub fives : length t.fives ≡ five_count net
  pub masks : length t.masks ≡ mask_count net

-- as many words as the circuit needs are just those of their layout, each in one place
pub record IsLaidOut (net : Net) (words : List ℕ) : Type 0 where
  pub covers : Covers net (layout_of net words)
  pub whole : layout_words (layout_of net words) ≡ words

abbrev pub LayoutLaw : Type 0
LayoutLaw = (net : Net) (words : List ℕ) → length words ≡ section_length net → IsLaidOut net words

-- ---- the two parts
abbrev pub no_triple : Triple
no_triple = record { a = 0; b = 0; c = 0 }

pub record PartWords : Type 0 where
  pub r : List ℕ
  pub triples : List Triple
  pub masks : List ℕ

-- the product of both sites' a and b, of which A's c and B's c are shares
abbrev pub product_of : Five → ℕ
product_of f = (f.a0 ⊕ f.a1) ⊗ (f.b0 ⊕ f.b1)

abbrev pub triple_of : Site → Five → Triple
triple_of A f = record { a = f.a0; b = f.b0; c = f.c0 }
triple_of B f = record { a = f.a1; b = f.b1; c = product_of f ⊕ f.c0 }

abbrev pub part_of : Site → Layout → PartWords
part_of site t = record { r = t.r; triples = map (triple_of site) t.fives; masks = t.masks }
