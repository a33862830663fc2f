-- The change of a section along the gates.
use Rattle.std.proofs.Common.{◌≡◌, ℕ, suc, ◌+◌, ◌-◌, ◌*◌, ◌<◌, ◌≤◌, List, [], ◌∷◌, ◌++◌, length, get_or, take, drop, refl, sym, ap, ◌∙◌, subst, arith, length-append, length-drop, append_assoc}
use Rattle.std.specs.Prelude.{Result, Ok, Err, IfOk}
use Rattle.std.proofs.lemmas.List.{drop-drop, take_more, take_all, take_rest}
use Rattle.std.proofs.lemmas.List.Folds.{length-flat_map-take}
use Rattle.pdn_base.specs.declared.site.Site.{Site}
use Rattle.pdn_circuit.specs.declared.gate.Gate.{Gate}
use Rattle.pdn_circuit.specs.declared.gate.Gate.TheVariants.{Input, Given, Const, Xor, And, Spread, Move}
use Rattle.pdn_circuit.specs.Gates.{Net, InputWords, values, Pair, read_pair, operands_of, ands, NamesBelow, InOrder}
use Rattle.pdn_circuit.proofs.ValueLaws.{ands_more}
use Rattle.pdn_circuit.proofs.Reading.{length-values}
use Rattle.pdn_base.proofs.WordLists.{length-xor_lists}
use Rattle.pdn_dealer.specs.Sections.{Layout, Covers, five_words, five_of, layout_of, section_length}
use Rattle.pdn_dealer.proofs.SectionWords.{covers_of, layout_of_words}
use Rattle.pdn_gmw.specs.Shares.{World}
use Rattle.pdn_shift.specs.Changes.{differences, taken_up, fives_changed, shift, shift_words}
use Rattle.pdn_shift.specs.Worlds.{Alike, LooksAlike}
use Rattle.pdn_shift.proofs.Undoing.{back_law, back_words_law}
use Rattle.pdn_shift.proofs.TwoWorlds.{unit_law}

-- the words of some And gates and of those after them
fives_append : (site : Site) (ds : List ℕ) (ps qs : List Pair) (words : List ℕ)
    → fives_changed site ds (ps ++ qs) words ≡ fives_changed site ds ps words ++ fives_changed site ds qs (drop (5 * length ps) words)
fives_append site ds [] qs words = refl
fives_append site ds (p ∷ ps) qs words =
    let five : List ℕ = five_words (taken_up site (read_pair ds p) (five_of words)) in
    let front : List ℕ = fives_changed site ds ps (drop 5 words) in
    let there : drop (5 * length ps) (drop 5 words) ≡ drop (5 * suc (length ps)) words = drop-drop (5 * length ps) 5 words ∙ ap (λ (n : ℕ). drop n words) (omega arith) in
    ap (λ (ws : List ℕ). five ++ ws) (fives_append site ds ps qs (drop 5 words))
    ∙ ap (λ (ws : List ℕ). five ++ (front ++ fives_changed site ds qs ws)) there
    ∙ sym (append_assoc five front (fives_changed site ds qs (drop (5 * suc (length ps)) words)))

-- ---- the loop's step, over plain variables
module _ (gates : List Gate) (j at : ℕ) (gate : Gate) (here : j < length gates) (item : gate ≡ get_or gates j gate) (so_far : at ≡ 5 * length (ands (take j gates))) where
  ands_next : ands (take (j + 1) gates) ≡ ands (take j gates) ++ operands_of gate
  ands_next = ap ands (take_more gates j gate here) ∙ ands_more (take j gates) (get_or gates j gate) ∙ ap (λ (g : Gate). ands (take j gates) ++ operands_of g) (sym item)

  pub within : (len : ℕ) → 5 * length (ands gates) ≤ len → at + 5 * length (operands_of gate) ≤ len
  within len room = omega (arith, length-flat_map-take operands_of gates j gate here, ap (λ (g : Gate). length (operands_of g)) item)

  pub room_left : (words : List ℕ) → 5 * length (ands gates) ≤ length words → 5 * length (operands_of gate) ≤ length (take (length words - at) (drop at words))
  room_left words room = omega (arith, within (length words) room, ap length (take_rest words at), length-drop at words)

  pub at_more : (count : ℕ) → count ≡ 5 * length (operands_of gate) → at + count ≡ 5 * length (ands (take (j + 1) gates))
  at_more count e = omega (arith, ap length ands_next, length-append (ands (take j gates)) (operands_of gate))

  pub words_more : (site : Site) (ds words front now new : List ℕ) → now ≡ front ++ fives_changed site ds (ands (take j gates)) words
      → new ≡ now ++ fives_changed site ds (operands_of gate) (take (length words - at) (drop at words)) → new ≡ front ++ fives_changed site ds (ands (take (j + 1) gates)) words
  words_more site ds words front now new e f =
      let ps : List Pair = ands (take j gates) in
      f
      ∙ ap (λ (ws : List ℕ). now ++ fives_changed site ds (operands_of gate) ws) (take_rest words at)
      ∙ ap (λ (ws : List ℕ). ws ++ fives_changed site ds (operands_of gate) (drop at words)) e
      ∙ append_assoc front (fives_changed site ds ps words) _
      ∙ ap (λ (n : ℕ). front ++ (fives_changed site ds ps words ++ fives_changed site ds (operands_of gate) (drop n words))) so_far
      ∙ ap (λ (ws : List ℕ). front ++ ws) (sym (fives_append site ds ps (operands_of gate) words) ∙ ap (λ (qs : List Pair). fives_changed site ds qs words) (sym ands_next))

pub ands_done : (gates : List Gate) (j : ℕ) → length gates ≤ j → ands (take j gates) ≡ ands gates
ands_done gates j l = ap ands (take_all j gates l)

-- ---- what is read is there
pub names_below : (m n : ℕ) (gate : Gate) → m ≤ n → NamesBelow m gate → NamesBelow n gate
names_below m n (Input site index) l h = tt
names_below m n (Given index) l h = tt
names_below m n (Const word) l h = tt
names_below m n (Xor a b) l h = (let x = h.0 in omega arith, let y = h.1 in omega arith)
names_below m n (And a b) l h = (let x = h.0 in omega arith, let y = h.1 in omega arith)
names_below m n (Spread a lane) l h = omega arith
names_below m n (Move a from count to) l h = omega arith

pub names_there : (gates : List Gate) (j len : ℕ) (gate : Gate) → InOrder gates → len ≡ length gates → j < length gates → gate ≡ get_or gates j gate → NamesBelow len gate
names_there gates j len gate o e here item =
    names_below j len gate (omega arith) (subst (λ (g : Gate). NamesBelow j g) (sym item) (o.at j gate here))

pub length-differences : (first second : InputWords) (gates : List Gate) → length (differences first second gates) ≡ length gates
length-differences first second gates =
    length-xor_lists (values first gates) (values second gates) (length-values second gates ∙ sym (length-values first gates)) ∙ length-values first gates

-- ---- what the changed words mean
module _ (site : Site) (net : Net) (first second : InputWords) (old new : List ℕ) (l : length old ≡ section_length net) (e : new ≡ shift_words site net first second old) where
  pub looks_alike : InOrder net.gates → LooksAlike site net first second old new
  looks_alike o shares others one two same =
      let t : Layout = layout_of net old in
      let covers : Covers net t = covers_of net old l in
      let s : Layout = shift site net first second t in
      let read : layout_of net new ≡ s = ap (layout_of net) e ∙ layout_of_words net s (back_law site net first second t covers).covers in
      let a : World = record { inputs = first; given_a = shares } in
      let b : World = record { inputs = second; given_a = others } in
      subst (λ (u : Layout). Alike site net a b t u) (sym read) (unit_law site net a b t o covers one two same)

  pub gives_back : shift_words site net second first new ≡ old
  gives_back = ap (shift_words site net second first) e ∙ (back_words_law site net first second old l).back

-- ---- two facts of one result
pub if_both : {X E : Type 0} (r : Result X E) (P Q R : X → Type 0) → ((x : X) → P x → Q x → R x) → IfOk r P → IfOk r Q → IfOk r R
if_both (Ok x) P Q R f p q = f x p q
if_both (Err e) P Q R f p q = tt
